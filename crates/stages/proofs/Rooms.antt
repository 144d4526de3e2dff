-- The room that a plan asks in work, shared out among its stages. Assumes nothing.
use Prim.Native.Nat.{ℕ, zero, suc, ◌+◌, ◌*◌, ◌≤◌}
use mathlib.Core.Path.{◌≡◌, ap, subst}
use mathlib.Core.List.{List}
use native.Mathlib.Omega.{arith}
use lib.ListN.{length}
use Rattle.stages.specs.Room.{room, cap, Fits}

pub room-least : (l n : ℕ) → n ≤ room l n
unfolding room
room-least zero n = omega arith
room-least (suc l) n = omega arith

-- three stages over a code: a whole plan
pub top-room : (n : ℕ) → (room 3 n ≡ 7 * n) × (cap 3 n ≡ 72 * n + 88)
unfolding room cap
top-room n = (omega arith, omega arith)

pub room-grows : (l k n : ℕ) → k ≤ n → room l k ≤ room l n
unfolding room
room-grows zero k n h = h
room-grows (suc l) k n h = omega (arith, room-grows l k n h)

module _ {body work : List ℕ} {l n from : ℕ} (s : Fits body work l n from) where
  pub fits-list : from + n ≤ length work
  fits-list = omega (arith, s.within, room-least l n)

  module _ {l' : ℕ} (e : l ≡ suc l') where
    pub fits-runs : Fits body work (suc l') n from
    fits-runs = subst (λ (k : ℕ). Fits body work k n from) e s

    pub fits-inner : {inner : List ℕ} → length inner ≤ length body → Fits inner work l' n from
    unfolding room
    fits-inner h =
        let opened : room l n ≡ n + n + room l' n = ap (λ (k : ℕ). room k n) e in
        record { short = omega (arith, s.short); few = s.few; within = omega (arith, s.within) }

-- the list of a run stage; the runs' values stand n places after it, their lengths 2n
module _ {body work : List ℕ} {l n from : ℕ} (s : Fits body work (suc l) n from) where
  pub fits-spread : from + 3 * n ≤ length work
  unfolding room
  fits-spread = omega (arith, s.within, room-least l n)

  module _ {k : ℕ} (h : k ≤ n) {inner work' : List ℕ} (b : length inner ≤ length body) (w : length work' ≡ length work) where
    pub fits-values : Fits inner work' l k (from + n)
    unfolding room
    fits-values = record { short = omega (arith, s.short); few = omega (arith, s.few); within = omega (arith, s.within, room-grows l k n h) }

    pub fits-lengths : Fits inner work' l k (from + 2 * n)
    unfolding room
    fits-lengths = record { short = omega (arith, s.short); few = omega (arith, s.few); within = omega (arith, s.within, room-grows l k n h) }
