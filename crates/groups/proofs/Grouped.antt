-- What every code of groups knows, from how its groups stand in a body. Assumes nothing.
use Prim.Native.Nat.{ℕ, suc, ◌+◌, ◌-◌, ◌≤◌, ◌<◌, min}
use mathlib.Core.Path.{◌≡◌, refl, sym, ap, ◌∙◌, subst}
use mathlib.Core.Bool.{Bool, true}
use mathlib.Core.List.{List, [], ◌∷◌, ◌++◌}
use native.Mathlib.Omega.{arith}
use lib.Dec.{leb}
use lib.ListN.{length, take, drop, length-append, length-drop, length-take, take-append-drop}
use borrow.Author.Tests.{leb-true, le-leb}
use Rattle.meaning.specs.Answer.{given}
use Rattle.meaning.specs.Codes.{always}
use Rattle.meaning.specs.DataBytes.{data_bytes}
use Rattle.meaning.specs.Groups.{group_count, controls, group_at}
use Rattle.meaning.specs.Limits.{number_limit}
use Rattle.meaning.specs.Places.{Below, part}
use Rattle.meaning.specs.declared.Position.{Position}
use Rattle.meaning.proofs.Answers.{bind-given}
use Rattle.meaning.proofs.Bounds.{below-nil, below-take, below-drop, below-append}
use Rattle.meaning.proofs.Lasting.{Lasts, lasts-given, lasts-bind}
use Rattle.meaning.proofs.Units.{Good, Whole}
use Rattle.groups.specs.Layouts.{Layout, size, unit_by}
use Rattle.groups.proofs.Controls.{Fields}
use Rattle.groups.proofs.Pieces.{first_piece}
use Rattle.groups.proofs.OneGroup.{written_at, there-at, many-at, back_at, at-lasts}

-- the group of ys stands at p
pub record First (g : Layout) (body : List ℕ) (p : Position) (ys : List ℕ) : Type 0 where
  pub there : group_count (length ys) ≤ length (drop p.head.byte body)
  pub bytes : part body p.head.byte (group_count (length ys)) ≡ controls g.group ys
  pub is : drop (g.from (group_count (length ys)) p) body ≡ data_bytes ys ++ drop (g.from (group_count (length ys)) p + length (data_bytes ys)) body

abbrev pub after : Layout → Position → List ℕ → Position
after g p ys = g.next (group_count (length ys)) p (g.from (group_count (length ys)) p + length (data_bytes ys))

-- the first group of a list, and what comes after it
abbrev pub front : Layout → List ℕ → List ℕ
front g xs = take g.group.most xs

abbrev pub rest : Layout → List ℕ → List ℕ
rest g xs = drop g.group.most xs

-- `At p xs`: the body holds exactly the groups of xs from p on, so the first and then the others
pub record Chain (g : Layout) (body : List ℕ) (At : Position → List ℕ → Type 0) : Type 0 where
  pub apart : (p : Position) (xs : List ℕ) → 0 < length xs → At p xs → First g body p (front g xs) × At (after g p (front g xs)) (rest g xs)
  pub together : (p : Position) (xs : List ℕ) → 0 < length xs → First g body p (front g xs) → At (after g p (front g xs)) (rest g xs) → At p xs

-- the group that a unit is
pub record UnitAt (g : Layout) (body : List ℕ) (left : ℕ) (p : Position) (u : Position × List ℕ) : Type 0 where
  pub end : ℕ
  pub is : (g.next (group_count (size g left)) p end, u.1) ≡ u
  pub group : group_at g.group body (size g left) p.head.byte (g.from (group_count (size g left)) p) ≡ given (end, u.1)

-- ---- bytes added behind a body
-- how far a unit that ends at a position reaches
pub record Reach (g : Layout) (reach : Position → ℕ) : Type 0 where
  pub ends : (m : ℕ) (p : Position) (end : ℕ) → reach (g.next m p end) ≡ end
  -- a group that begins within a length, and whose control bytes do, has its data begin within
  pub begins : (m : ℕ) (p : Position) (long : ℕ) → reach p ≤ long → m ≤ long - p.head.byte → g.from m p ≤ long

-- whether that is within the body
abbrev pub within : (Position → ℕ) → List ℕ → Position → Bool
within reach body p = leb (reach p) (length body)

pub unit-lasts : {g : Layout} {reach : Position → ℕ} → Reach g reach → (body more : List ℕ) (left : ℕ) (p : Position)
    → Lasts (λ u. within reach body p ≡ true → within reach body u.0 ≡ true) (unit_by g body left p) (unit_by g (body ++ more) left p)
unit-lasts {g} {reach} r body more left p =
    let k = size g left in
    let m = group_count k in
    let at = p.head.byte in
    lasts-bind (group_at g.group body k at (g.from m p)) (group_at g.group (body ++ more) k at (g.from m p)) _ _
    (at-lasts g.group body more k at (g.from m p)) (λ t e stays.
    let there = there-at g.group body k at (g.from m p) t e in
    lasts-given (g.next m p t.0, t.1) (λ h.
    let begins = r.begins m p (length body) (leb-true _ _ h) (omega (arith, length-drop at body)) in
    rw (r.ends m p t.0) (le-leb t.0 (length body) (stays begins))))

module _ (g : Layout) (by : Fields g.group) (body : List ℕ) where
  pub unit-is : (left : ℕ) (p : Position) (u : Position × List ℕ) → unit_by g body left p ≡ given u → UnitAt g body left p u
  unit-is left p u e =
      let (t, et, eu) = bind-given (group_at g.group body (size g left) p.head.byte (g.from (group_count (size g left)) p)) _ u e in
      let is : (g.next (group_count (size g left)) p t.0, t.1) ≡ u = cc in
      subst (UnitAt g body left p) is (record { end = t.0; is = refl; group = et })

  pub unit-many : (left : ℕ) (p : Position) (u : Position × List ℕ) → unit_by g body left p ≡ given u → length u.1 ≡ size g left
  unit-many left p u e = let t = unit-is left p u e in many-at g.group body (size g left) p.head.byte _ (t.end, u.1) t.group

  pub good : Good (unit_by g body)
  good =
      record {
        some = λ left p u h e. omega (arith, unit-many left p u e, by.any);
        few = λ left p u h e. omega (arith, unit-many left p u e);
      }

  -- ---- whole bodies
  module _ (At : Position → List ℕ → Type 0) (chain : Chain g body At) where
    abbrev pub Holds : List ℕ → Position → List ℕ → Type 0
    Holds before p xs = At p xs × Below number_limit xs

    -- a group that stands at p is the unit there
    unit-first : (left : ℕ) (p : Position) (ys : List ℕ) → First g body p ys → length ys ≡ size g left → Below number_limit ys
        → unit_by g body left p ≡ given (after g p ys, ys)
    unit-first left p ys first many small =
        rw (← many) (rw (written_at by body ys _ p.head.byte (g.from (group_count (length ys)) p) first.there first.bytes first.is small))

    heads : (before : List ℕ) (p : Position) (x : ℕ) (xs : List ℕ) → Holds before p (x ∷ xs)
        → (u : Position × List ℕ) × (unit_by g body (suc (length xs)) p ≡ given u) × (always before u.1 ≡ true)
        × ((zs : List ℕ) × (u.1 ++ zs ≡ x ∷ xs) × Holds u.1 u.0 zs)
    heads before p x xs h =
        let l : List ℕ = x ∷ xs in
        let most = g.group.most in
        let (first, others) = chain.apart p l (omega arith) h.0 in
        let e = unit-first (suc (length xs)) p (take most l) first (length-take most l) (below-take number_limit most l h.1) in
        ((after g p (take most l), take most l), e, refl, (drop most l, take-append-drop most l, (others, below-drop number_limit most l h.1)))

    join : (p : Position) (ys zs : List ℕ) → 0 < length ys → length ys ≡ min g.group.most (length ys + length zs) → First g body p ys
        → At (after g p ys) zs → At p (ys ++ zs)
    join p ys zs some full first others =
        let (front-is, rest-is) = first_piece g.group.most ys zs full in
        chain.together p (ys ++ zs) (omega (arith, length-append ys zs)) (rw front-is first) (rw (front-is, rest-is) others)

    headed : Below 256 body → (n : ℕ) (before : List ℕ) (p : Position) (u : Position × List ℕ) (zs : List ℕ) → unit_by g body (suc n) p ≡ given u
        → length zs ≡ suc n - length u.1 → Holds u.1 u.0 zs → Holds before p (u.1 ++ zs)
    headed low n before p u zs e k h =
        let ys = u.1 in
        let t = unit-is (suc n) p u e in
        let b = back_at by body (size g (suc n)) p.head.byte (g.from (group_count (size g (suc n))) p) (t.end, ys) low t.group in
        let many = unit-many (suc n) p u e in
        let some = by.any in
        let ends : t.end ≡ g.from (group_count (length ys)) p + length (data_bytes ys) = rw many b.ends in
        let at : u.0 ≡ after g p ys = sym (ap (λ (v : Position × List ℕ). v.0) t.is) ∙ rw (← many) (ap (g.next (group_count (length ys)) p) ends) in
        let first : First g body p ys =
        record {
          there = b.there;
          bytes = b.bytes;
          is = rw many (b.is ∙ ap (λ (m : ℕ). data_bytes ys ++ drop m body) b.ends);
        } in (
          join p ys zs (omega (arith, many)) (omega (arith, many)) first (subst (λ (q : Position). At q zs) at h.0),
          below-append number_limit ys zs b.small h.1,
        )

    pub whole : (done : Position → Bool) → Below 256 body → ((p : Position) → At p [] → done p ≡ true) → ((p : Position) → done p ≡ true → At p [])
        → Whole (unit_by g body) always done Holds
    whole done low ends ended =
        record {
          ends = λ before p h. ends p h.0;
          heads = heads;
          ended = λ before p e. (ended p e, below-nil number_limit (omega arith));
          headed = λ n before p u zs e j. headed low n before p u zs e;
        }
