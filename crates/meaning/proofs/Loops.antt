-- What the loop of a strict reading and the loop of a lookup know, for any code. Assumes nothing.
use Prim.Native.Nat.{ℕ, ◌+◌, ◌-◌, ◌≤◌, ◌<◌}
use mathlib.Core.Path.{◌≡◌, refl, sym, ap, ◌∙◌}
use mathlib.Core.Bool.{Bool, true, false}
use mathlib.Core.List.{List, [], ◌++◌, append_assoc, append-nil}
use native.Mathlib.Nat.{sub-zero}
use native.Mathlib.Omega.{arith}
use Rattle.std.specs.Prelude.{Ok, Err}
use lib.ListN.{length, get_or, take, length-append}
use lib.Seq.{sets, length-sets}
use Rattle.meaning.specs.Answer.{Answer, given, refused, need, amount}
use Rattle.meaning.specs.Limits.{broken}
use Rattle.meaning.specs.Places.{part, Got}
use Rattle.meaning.specs.Units.{read_units, look_units}
use Rattle.meaning.specs.Says.{refusal_number}
use Rattle.meaning.specs.declared.Refusal.{Refusal}
use Rattle.meaning.proofs.Answers.{not-given}
use Rattle.meaning.proofs.Stores.{part-more, take-sets}
use Rattle.meaning.proofs.Units.{Good, join, read_none, read-refused, read-apart, read_next, look-refused, look-here, look-next}

-- ---- a strict reading
join-nil : (m : Answer (List ℕ)) → m ≡ join [] m
join-nil (given xs) = refl
join-nil (refused e) = refl

join-join : (xs ys : List ℕ) (m : Answer (List ℕ)) → join xs (join ys m) ≡ join (xs ++ ys) m
join-join xs ys (given zs) = ap (λ (l : List ℕ). given l) (sym (append_assoc xs ys zs))
join-join xs ys (refused e) = refl

join-end : (b : Bool) (xs : List ℕ) → join xs (need b broken (given [])) ≡ need b broken (given xs)
join-end true xs = ap (λ (l : List ℕ). given l) (append-nil xs)
join-end false xs = refl

module _ {P : Type 0} (unit : ℕ → P → Answer (P × List ℕ)) (joins : List ℕ → List ℕ → Bool) (done : P → Bool) (n : ℕ) (p₀ : P) (w₀ : List ℕ) (from : ℕ) where
  -- i numbers have been read and stand in work, the last unit's are `before`, and the next unit is at p
  pub record ReadSo (w : List ℕ) (i : ℕ) (before : List ℕ) (p : P) : Type 0 where
    pub sofar : List ℕ
    pub counted : length sofar ≡ i
    pub most : i ≤ n
    pub here : part w from i ≡ sofar
    pub kept : take from w ≡ take from w₀
    pub long : length w ≡ length w₀
    pub rest : read_units unit joins done n [] p₀ ≡ join sofar (read_units unit joins done (n - i) before p)

  pub read-start : ReadSo w₀ 0 [] p₀
  read-start =
      record {
        sofar = [];
        counted = refl;
        most = omega arith;
        here = refl;
        kept = refl;
        long = refl;
        rest = rw (sub-zero n) (join-nil (read_units unit joins done n [] p₀));
      }

  module _ (good : Good unit) (w : List ℕ) (i : ℕ) (before : List ℕ) (p : P) (so : ReadSo w i before p) where
    -- a unit's numbers have been stored after those before it
    pub read-turn : (u : P × List ℕ) (w' : List ℕ) → from + n ≤ length w₀ → i < n → unit (n - i) p ≡ given u → joins before u.1 ≡ true
        → w' ≡ sets w (from + i) u.1 → ReadSo w' (i + length u.1) u.1 u.0
    read-turn u w' fits h e j ew =
        let few = good.few (n - i) p u (omega arith) e in
        let c = so.counted in
        let room : from + i + length u.1 ≤ length w = omega (arith, so.long) in
        let m : n - i - length u.1 ≡ n - (i + length u.1) = omega arith in
        let after = read_units unit joins done (n - (i + length u.1)) u.1 u.0 in
        record {
          sofar = so.sofar ++ u.1;
          counted = length-append so.sofar u.1 ∙ ap (λ (k : ℕ). k + length u.1) c;
          most = omega arith;
          here = rw ew (part-more u.1 w from i room) ∙ ap (λ (l : List ℕ). l ++ u.1) so.here;
          kept = rw ew (take-sets u.1 w from (from + i) (omega arith)) ∙ so.kept;
          long = rw ew (length-sets w (from + i) u.1) ∙ so.long;
          rest = so.rest ∙ rw (read_next unit joins done good (n - i) before p u (omega arith) e j, m) (join-join so.sofar u.1 after);
        }

    pub read-refuse : (z : ℕ) → i < n → unit (n - i) p ≡ refused z → read_units unit joins done n [] p₀ ≡ refused z
    read-refuse z h e = so.rest ∙ rw (read-refused unit joins done good (n - i) before p z (omega arith) e)

    pub read-unjoined : (u : P × List ℕ) → i < n → unit (n - i) p ≡ given u → joins before u.1 ≡ false → read_units unit joins done n [] p₀ ≡ refused broken
    read-unjoined u h e j = so.rest ∙ rw (read-apart unit joins done good (n - i) before p u (omega arith) e j)

    pub read-end : n ≤ i → read_units unit joins done n [] p₀ ≡ need (done p) broken (given so.sofar)
    read-end h =
        let m : n - i ≡ 0 = omega arith in
        so.rest ∙ rw (m, read_none unit joins done good before p) (join-end (done p) so.sofar)

    -- ---- what the loop answers, of any answer a that is the reading
    module _ (a : Answer (List ℕ)) (is : a ≡ read_units unit joins done n [] p₀) where
      -- a refusal was handed on
      pub got-refused : (z : Refusal) → a ≡ refused (refusal_number z) → Got a from w₀ w (Err z)
      got-refused z e = record { told = ap amount (sym e); here = λ xs q. absurd (not-given (refusal_number z) xs (sym e ∙ q)); kept = so.kept }

      -- all is read, and nothing is left over
      pub got-whole : n ≤ i → done p ≡ true → Got a from w₀ w (Ok n)
      got-whole h d =
          let all : i ≡ n = omega (arith, so.most) in
          let e : a ≡ given so.sofar = is ∙ read-end h ∙ rw d in
          record {
            told = ap (λ (k : ℕ). given k) (sym (so.counted ∙ all)) ∙ ap amount (sym e);
            here = λ xs q. let x : so.sofar ≡ xs = cc in rw (← x, so.counted) so.here;
            kept = so.kept;
          }

-- ---- a lookup: a walk over the units, for all places at once
module _ {P : Type 0} (unit : ℕ → P → Answer (P × List ℕ)) (n : ℕ) (p₀ : P) where
  -- i numbers have been passed, and the next unit is at p
  pub record Walked (i : ℕ) (p : P) : Type 0 where
    pub most : i ≤ n
    pub rest : (place : ℕ) → i ≤ place → place < n → look_units unit n place p₀ ≡ look_units unit (n - i) (place - i) p

  pub walk_start : Walked 0 p₀
  walk_start = record { most = omega arith; rest = λ place h k. rw (sub-zero n, sub-zero place) }

  module _ (good : Good unit) (i : ℕ) (p : P) (so : Walked i p) where
    -- the next unit is passed
    pub walk_turn : (u : P × List ℕ) → i < n → unit (n - i) p ≡ given u → Walked (i + length u.1) u.0
    walk_turn u h e =
        record {
          most = omega (arith, good.few (n - i) p u (omega arith) e);
          rest = λ place a b.
              let m : n - i - length u.1 ≡ n - (i + length u.1) = omega arith in
              let q : place - i - length u.1 ≡ place - (i + length u.1) = omega arith in
              so.rest place (omega arith) b ∙ look-next unit good (n - i) (place - i) p u (omega arith) e (omega arith) ∙ rw (m, q);
        }

    -- its numbers are those at the next places
    pub walk_here : (u : P × List ℕ) → unit (n - i) p ≡ given u → (place : ℕ) → i ≤ place → place < i + length u.1 → place < n
        → look_units unit n place p₀ ≡ given (get_or u.1 (place - i) 0)
    walk_here u e place a b c = so.rest place a c ∙ look-here unit good (n - i) (place - i) p u (omega arith) e (omega arith)

    -- its refusal is that of every place from here on
    pub walk-refuse : (z : ℕ) → unit (n - i) p ≡ refused z → (place : ℕ) → i ≤ place → place < n → look_units unit n place p₀ ≡ refused z
    walk-refuse z e place a c = so.rest place a c ∙ look-refused unit good (n - i) (place - i) p z (omega arith) e
