-- Reading and looking up unit by unit, for any code. Assumes nothing.
use Prim.Native.Nat.{ℕ, zero, suc, ◌+◌, ◌-◌, ◌≤◌, ◌<◌}
use mathlib.Core.Path.{◌≡◌, refl, sym, ap, ◌∙◌, subst}
use mathlib.Core.Bool.{Bool, true, false}
use mathlib.Core.List.{List, [], ◌∷◌, ◌++◌}
use native.Mathlib.Omega.{arith}
use lib.ListN.{length, get_or, length-append, get_or-append}
use lib.Seq.{get_or-append-add}
use borrow.Author.Tests.{lt-ltb, le-ltb}
use Rattle.meaning.specs.Answer.{Answer, given, refused, bind, need}
use Rattle.meaning.specs.Limits.{broken}
use Rattle.meaning.specs.Units.{read_from, read_units, look_from, look_units}
use Rattle.meaning.proofs.Answers.{bind-given, bind-cong, need-given, not-given}
use Rattle.meaning.proofs.Tests.{by_order}

-- a unit holds one number at least, and none beyond the list
pub record Good {P : Type 0} (unit : ℕ → P → Answer (P × List ℕ)) : Type 0 where
  pub some : (left : ℕ) (p : P) (u : P × List ℕ) → 0 < left → unit left p ≡ given u → 0 < length u.1
  pub few : (left : ℕ) (p : P) (u : P × List ℕ) → 0 < left → unit left p ≡ given u → length u.1 ≤ left

-- a unit and then the rest
abbrev pub join : List ℕ → Answer (List ℕ) → Answer (List ℕ)
join xs r = bind r (λ ys. given (xs ++ ys))

-- what a reading that goes on after a unit says: the unit's numbers, and the rest
pub record Split {P : Type 0} (unit : ℕ → P → Answer (P × List ℕ)) (joins : List ℕ → List ℕ → Bool)
    (r : ℕ → ℕ → List ℕ → P → Answer (List ℕ)) (f n : ℕ) (before : List ℕ) (p : P) (xs : List ℕ) : Type 0 where
  pub u : P × List ℕ
  pub rest : List ℕ
  pub eu : unit (suc n) p ≡ given u
  pub joined : joins before u.1 ≡ true
  pub er : r f (suc n - length u.1) u.1 u.0 ≡ given rest
  pub is : u.1 ++ rest ≡ xs

module _ {P : Type 0} (unit : ℕ → P → Answer (P × List ℕ)) (joins : List ℕ → List ℕ → Bool) (done : P → Bool) where
  -- a reading of one more number, taken apart
  split : (f n : ℕ) (before : List ℕ) (p : P) (xs : List ℕ) → read_from unit joins done (suc f) (suc n) before p ≡ given xs
      → Split unit joins (read_from unit joins done) f n before p xs
  unfolding read_from
  split f n before p xs e =
      let (u, eu, e₁) = bind-given (unit (suc n) p) _ xs e in
      let (j, e₂) = need-given (joins before u.1) broken _ xs e₁ in
      let (ys, er, e₃) = bind-given (read_from unit joins done f (suc n - length u.1) u.1 u.0) _ xs e₂ in
      record { u = u; rest = ys; eu = eu; joined = j; er = er; is = cc }

  none : (p : P) (xs : List ℕ) → need (done p) broken (given []) ≡ given xs → (done p ≡ true) × ([] ≡ xs)
  none p xs e = let (d, g) = need-given (done p) broken (given []) xs e in (d, cc)

  module _ (good : Good unit) where
    -- any count that is large enough reads the same
    read-enough : (f g left : ℕ) (before : List ℕ) (p : P) → left ≤ f → left ≤ g
        → read_from unit joins done f left before p ≡ read_from unit joins done g left before p
    unfolding read_from
    read-enough zero zero left before p hf hg = refl
    read-enough zero (suc g) zero before p hf hg = refl
    read-enough zero (suc g) (suc n) before p hf hg = absurd (omega arith)
    read-enough (suc f) zero zero before p hf hg = refl
    read-enough (suc f) zero (suc n) before p hf hg = absurd (omega arith)
    read-enough (suc f) (suc g) zero before p hf hg = refl
    read-enough (suc f) (suc g) (suc n) before p hf hg =
        bind-cong (unit (suc n) p) _ _
        (λ u e. let k = good.some (suc n) p u (omega arith) e in
        ap (λ (r : Answer (List ℕ)). need (joins before u.1) broken (join u.1 r))
        (read-enough f g (suc n - length u.1) u.1 u.0 (omega arith) (omega arith)))

    -- ---- the equations of `read_units`: nothing after them looks at the count
    pub read_none : (before : List ℕ) (p : P) → read_units unit joins done 0 before p ≡ need (done p) broken (given [])
    unfolding read_units read_from
    read_none before p = refl

    pub read-refused : (n : ℕ) (before : List ℕ) (p : P) (e : ℕ) → 0 < n → unit n p ≡ refused e → read_units unit joins done n before p ≡ refused e
    unfolding read_units read_from
    read-refused zero before p e h q = absurd (omega arith)
    read-refused (suc n) before p e h q = rw q

    pub read-apart : (n : ℕ) (before : List ℕ) (p : P) (u : P × List ℕ) → 0 < n → unit n p ≡ given u → joins before u.1 ≡ false
        → read_units unit joins done n before p ≡ refused broken
    unfolding read_units read_from
    read-apart zero before p u h q j = absurd (omega arith)
    read-apart (suc n) before p u h q j = rw (q, j)

    pub read_next : (n : ℕ) (before : List ℕ) (p : P) (u : P × List ℕ) → 0 < n → unit n p ≡ given u → joins before u.1 ≡ true
        → read_units unit joins done n before p ≡ join u.1 (read_units unit joins done (n - length u.1) u.1 u.0)
    unfolding read_units read_from
    read_next zero before p u h q j = absurd (omega arith)
    read_next (suc n) before p u h q j =
        let k = good.some (suc n) p u (omega arith) q in
        rw (q, j) (ap (join u.1)
        (read-enough n (suc n - length u.1) (suc n - length u.1) u.1 u.0 (omega arith) (omega arith)))

    -- ---- a reading gives as many numbers as were asked for
    many-from : (f n : ℕ) (before : List ℕ) (p : P) (xs : List ℕ) → read_from unit joins done f n before p ≡ given xs → length xs ≡ n
    unfolding read_from
    many-from zero zero before p xs e = rw (← (none p xs e).1)
    many-from zero (suc n) before p xs e = absurd (not-given _ _ e)
    many-from (suc f) zero before p xs e = rw (← (none p xs e).1)
    many-from (suc f) (suc n) before p xs e =
        let s = split f n before p xs e in
        let few = good.few (suc n) p s.u (omega arith) s.eu in
        let l : length s.u.1 + length s.rest ≡ length xs = sym (length-append s.u.1 s.rest) ∙ ap length s.is in
        let ih = many-from f (suc n - length s.u.1) s.u.1 s.u.0 s.rest s.er in
        omega arith

    pub read-many : (n : ℕ) (before : List ℕ) (p : P) (xs : List ℕ) → read_units unit joins done n before p ≡ given xs → length xs ≡ n
    unfolding read_units
    read-many n before p xs e = many-from n n before p xs e

-- ---- looking up
module _ {P : Type 0} (unit : ℕ → P → Answer (P × List ℕ)) (good : Good unit) where
  look-enough : (f g left place : ℕ) (p : P) → place < left → left ≤ f → left ≤ g → look_from unit f left place p ≡ look_from unit g left place p
  unfolding look_from
  look-enough zero zero left place p h hf hg = refl
  look-enough zero (suc g) left place p h hf hg = absurd (omega arith)
  look-enough (suc f) zero left place p h hf hg = absurd (omega arith)
  look-enough (suc f) (suc g) left place p h hf hg =
      bind-cong (unit left p) _ _
      (λ u e. let k = good.some left p u (omega arith) e in
      by_order place (length u.1)
      (λ t. rw (lt-ltb _ _ t))
      (λ t. rw (le-ltb _ _ t) (look-enough f g (left - length u.1) (place - length u.1) u.0 (omega arith) (omega arith) (omega arith))))

  pub look-refused : (n place : ℕ) (p : P) (e : ℕ) → place < n → unit n p ≡ refused e → look_units unit n place p ≡ refused e
  unfolding look_units look_from
  look-refused zero place p e h q = absurd (omega arith)
  look-refused (suc n) place p e h q = rw q

  pub look-here : (n place : ℕ) (p : P) (u : P × List ℕ) → place < n → unit n p ≡ given u → place < length u.1
      → look_units unit n place p ≡ given (get_or u.1 place 0)
  unfolding look_units look_from
  look-here zero place p u h q t = absurd (omega arith)
  look-here (suc n) place p u h q t = rw (q, lt-ltb _ _ t)

  pub look-next : (n place : ℕ) (p : P) (u : P × List ℕ) → place < n → unit n p ≡ given u → length u.1 ≤ place
      → look_units unit n place p ≡ look_units unit (n - length u.1) (place - length u.1) u.0
  unfolding look_units look_from
  look-next zero place p u h q t = absurd (omega arith)
  look-next (suc n) place p u h q t =
      let k = good.some (suc n) p u (omega arith) q in
      rw (q, le-ltb _ _ t)
      (look-enough n (suc n - length u.1) (suc n - length u.1) (place - length u.1) u.0 (omega arith) (omega arith) (omega arith))

-- ---- where reading gives a list, looking up gives its numbers
module _ {P : Type 0} (unit : ℕ → P → Answer (P × List ℕ)) (joins : List ℕ → List ℕ → Bool) (done : P → Bool) where
  ended : (p : P) (xs : List ℕ) (place : ℕ) → need (done p) broken (given []) ≡ given xs → place < length xs → ⊥
  ended p xs place e h = let z = ap length (none unit joins done p xs e).1 in omega arith

  -- one unit that holds the place, or not
  look-turn : (f left place : ℕ) (p : P) (u : P × List ℕ) (ys : List ℕ) → unit left p ≡ given u → place < length u.1 + length ys
      → ((q : ℕ) → q < length ys → look_from unit f (left - length u.1) q u.0 ≡ given (get_or ys q 0))
      → look_from unit (suc f) left place p ≡ given (get_or (u.1 ++ ys) place 0)
  unfolding look_from
  look-turn f left place p u ys eu h ih =
      rw eu
      (by_order place (length u.1)
      (λ t. rw (lt-ltb _ _ t) (ap (λ x. given x) (sym (get_or-append u.1 ys 0 place t))))
      (λ t. rw (le-ltb _ _ t)
      (ih (place - length u.1) (omega arith)
      ∙ ap (λ x. given x) (sym (get_or-append-add u.1 ys (place - length u.1) 0) ∙ ap (λ k. get_or (u.1 ++ ys) k 0) (omega arith)))))

  look-from : (f left : ℕ) (before : List ℕ) (p : P) (place : ℕ) (xs : List ℕ) → read_from unit joins done f left before p ≡ given xs → place < length xs
      → look_from unit f left place p ≡ given (get_or xs place 0)
  unfolding read_from look_from
  look-from zero zero before p place xs e h = absurd (ended p xs place e h)
  look-from zero (suc n) before p place xs e h = absurd (not-given _ _ e)
  look-from (suc f) zero before p place xs e h = absurd (ended p xs place e h)
  look-from (suc f) (suc n) before p place xs e h =
      let s = split unit joins done f n before p xs e in
      let l = simp length-append at (ap length s.is) in
      look-turn f (suc n) place p s.u s.rest s.eu (omega arith)
      (λ q hq. look-from f (suc n - length s.u.1) s.u.1 s.u.0 q s.rest s.er hq)
      ∙ ap (λ (l : List ℕ). given (get_or l place 0)) s.is

  -- law (c)
  pub look-read : (n : ℕ) (before : List ℕ) (p : P) (xs : List ℕ) → read_units unit joins done n before p ≡ given xs → (place : ℕ) → place < length xs
      → look_units unit n place p ≡ given (get_or xs place 0)
  unfolding read_units look_units
  look-read n before p xs e place h = look-from n n before p place xs e h

-- ---- the code as a whole: `At before p xs` says that the body holds exactly xs from the position p on, after a unit of the numbers `before`.
-- A code shows four facts about one unit or none, and has both directions for whole bodies.
pub record Whole {P : Type 0} (unit : ℕ → P → Answer (P × List ℕ)) (joins : List ℕ → List ℕ → Bool) (done : P → Bool)
    (At : List ℕ → P → List ℕ → Type 0) : Type 0 where
  pub ends : (before : List ℕ) (p : P) → At before p [] → done p ≡ true
  pub heads : (before : List ℕ) (p : P) (x : ℕ) (xs : List ℕ) → At before p (x ∷ xs)
      → (u : P × List ℕ) × (unit (suc (length xs)) p ≡ given u) × (joins before u.1 ≡ true) × ((zs : List ℕ) × (u.1 ++ zs ≡ x ∷ xs) × At u.1 u.0 zs)
  pub ended : (before : List ℕ) (p : P) → done p ≡ true → At before p []
  pub headed : (n : ℕ) (before : List ℕ) (p : P) (u : P × List ℕ) (zs : List ℕ) → unit (suc n) p ≡ given u → joins before u.1 ≡ true
      → length zs ≡ suc n - length u.1 → At u.1 u.0 zs → At before p (u.1 ++ zs)

module _ {P : Type 0} (unit : ℕ → P → Answer (P × List ℕ)) (joins : List ℕ → List ℕ → Bool) (done : P → Bool) (good : Good unit)
    (At : List ℕ → P → List ℕ → Type 0) (whole : Whole unit joins done At) where
  written : (f : ℕ) (before : List ℕ) (p : P) (xs : List ℕ) → At before p xs → length xs ≤ f → read_from unit joins done f (length xs) before p ≡ given xs
  unfolding read_from
  written zero before p [] h k = rw (whole.ends before p h)
  written (suc f) before p [] h k = rw (whole.ends before p h)
  written zero before p (x ∷ xs) h k = absurd (omega arith)
  written (suc f) before p (x ∷ xs) h k =
      let (u, eu, j, (zs, is, h')) = whole.heads before p x xs h in
      let some = good.some (suc (length xs)) p u (omega arith) eu in
      let l : length u.1 + length zs ≡ suc (length xs) = sym (length-append u.1 zs) ∙ ap length is in
      let m : length zs ≡ suc (length xs) - length u.1 = omega arith in
      rw (eu, j, ← m, written f u.1 u.0 zs h' (omega arith), is)

  -- law (a): a body that holds xs reads as xs
  pub read-written : (before : List ℕ) (p : P) (xs : List ℕ) → At before p xs → read_units unit joins done (length xs) before p ≡ given xs
  unfolding read_units
  read-written before p xs h = written (length xs) before p xs h (omega arith)

  none_left : (before : List ℕ) (p : P) (xs : List ℕ) → need (done p) broken (given []) ≡ given xs → At before p xs
  none_left before p xs e = let (d, z) = none unit joins done p xs e in subst (At before p) z (whole.ended before p d)

  holds : (f n : ℕ) (before : List ℕ) (p : P) (xs : List ℕ) → read_from unit joins done f n before p ≡ given xs → At before p xs
  unfolding read_from
  holds zero zero before p xs e = none_left before p xs e
  holds zero (suc n) before p xs e = absurd (not-given _ _ e)
  holds (suc f) zero before p xs e = none_left before p xs e
  holds (suc f) (suc n) before p xs e =
      let s = split unit joins done f n before p xs e in
      let l = many-from unit joins done good f (suc n - length s.u.1) s.u.1 s.u.0 s.rest s.er in
      subst (At before p) s.is
      (whole.headed n before p s.u s.rest s.eu s.joined l
      (holds f (suc n - length s.u.1) s.u.1 s.u.0 s.rest s.er))

  -- law (b): a body that reads as xs holds xs
  pub read-holds : (n : ℕ) (before : List ℕ) (p : P) (xs : List ℕ) → read_units unit joins done n before p ≡ given xs → At before p xs
  unfolding read_units
  read-holds n before p xs e = holds n n before p xs e
