-- What is written are bytes: each byte of a sheet of writable columns is below 256. Assumes nothing.
use Prim.Native.Nat.{ℕ, zero, suc, ◌+◌, ◌-◌, ◌≤◌, ◌<◌}
use mathlib.Core.Path.{◌≡◌, refl, sym, ap, ◌∙◌, subst}
use mathlib.Core.Bool.{Bool, true, false, ◌&&◌, cond}
use mathlib.Core.List.{List, [], ◌∷◌, ◌++◌}
use native.Mathlib.Omega.{arith}
use lib.Dec.{leb, eqb}
use lib.ListN.{length, get_or, drop}
use lib.Seq.{get_or-drop}
use borrow.Author.Tests.{eqb-true, leb-true}
use Rattle.meaning.specs.Bytes.{word}
use Rattle.meaning.specs.Codes.{is_code, last_code}
use Rattle.meaning.specs.Limits.{most_columns, plan_bytes, most_stages, last_edition, bad_plan}
use Rattle.meaning.specs.Lists.{all, joined}
use Rattle.meaning.specs.Places.{Below}
use Rattle.meaning.specs.Plan.{Plan, bad, code, reference, differences, runs, plan_size, plan_by, plan_at, plan_of, good, well_formed, judge_plan}
use Rattle.meaning.specs.Sheet.{is_edition, Listed, body_of, entry_bytes, sheet_bytes}
use Rattle.meaning.proofs.Answers.{need-given}
use Rattle.meaning.proofs.Bounds.{below-nil, below-cons, below-append}
use Rattle.meaning.proofs.Tests.{both_true, by_order}
use Rattle.codes.proofs.Numbered.{laws}
use Rattle.stages.proofs.Most.{bytes}
use Rattle.words.proofs.Words.{word_small}
use Rattle.writer.specs.Orders.{blank_listed, entry_laid}
use Rattle.writer.proofs.Laying.{sheet-is}
use Rattle.demands.proofs.Passing.{Writable, AllWritable}

-- ---- a well-formed plan: each byte up to its end is a known number, and the rest is 0
known-code : (b : ℕ) → is_code b ≡ true → b < 256
unfolding is_code
known-code b e = omega (arith, leb-true b last_code (both_true (leb 1 b) (leb b last_code) e).1)

known-stage : (stages b k : ℕ) → k < 256 → leb 1 stages && eqb b k ≡ true → b < 256
known-stage stages b k h e = omega (arith, eqb-true b k (both_true (leb 1 stages) (eqb b k) e).1)

-- n elements from an offset on are bytes
abbrev Small : List ℕ → ℕ → ℕ → Type 0
Small plan at n = (i : ℕ) → i < n → get_or plan (at + i) 0 < 256

module _ (plan : List ℕ) where
  small-first : (at n : ℕ) → get_or plan at 0 < 256 → Small plan (at + 1) n → Small plan at (1 + n)
  small-first at n b h zero l = let e : at ≡ at + 0 = omega arith in subst (λ (k : ℕ). get_or plan k 0 < 256) e b
  small-first at n b h (suc i) l = let e : at + 1 + i ≡ at + suc i = omega arith in subst (λ (k : ℕ). get_or plan k 0 < 256) e (h i (omega arith))

  small-both : (at m n : ℕ) → Small plan at m → Small plan (at + m) n → Small plan at (m + n)
  small-both at m n h k i l =
      by_order i m (λ below. h i below) (λ above.
      let e : at + m + (i - m) ≡ at + i = omega arith in
      subst (λ (j : ℕ). get_or plan j 0 < 256) e (k (i - m) (omega arith)))

  -- a byte that is known, and the plans after it
  module _ (at : ℕ) (p q : Plan)
      (hp : good p ≡ true → Small plan (at + 1) (plan_size p)) (hq : good q ≡ true → Small plan (at + 1 + plan_size p) (plan_size q)) where
    small_by : (k : ℕ) (c d e f : Bool)
        → (c ≡ true → get_or plan at 0 < 256) → (d ≡ true → get_or plan at 0 < 256) → (e ≡ true → get_or plan at 0 < 256) → (f ≡ true → get_or plan at 0 < 256)
        → good (cond c (code k) (cond d (reference p) (cond e (differences p) (cond f (runs p q) bad)))) ≡ true
        → Small plan at (plan_size (cond c (code k) (cond d (reference p) (cond e (differences p) (cond f (runs p q) bad)))))
    unfolding good plan_size
    small_by k true d e f h₁ h₂ h₃ h₄ g = small-first at 0 (h₁ refl) (λ i l. absurd (omega arith))
    small_by k false true e f h₁ h₂ h₃ h₄ g = small-first at (plan_size p) (h₂ refl) (hp g)
    small_by k false false true f h₁ h₂ h₃ h₄ g = small-first at (plan_size p) (h₃ refl) (hp g)
    small_by k false false false true h₁ h₂ h₃ h₄ g =
        let (a, b) = both_true (good p) (good q) g in
        small-first at (plan_size p + plan_size q) (h₄ refl) (small-both (at + 1) (plan_size p) (plan_size q) (hp a) (hq b))
    small_by k false false false false h₁ h₂ h₃ h₄ g = λ i l. absurd (omega arith)

    small-next : (stages : ℕ) → good (plan_by stages (get_or plan at 0) p q) ≡ true → Small plan at (plan_size (plan_by stages (get_or plan at 0) p q))
    small-next stages =
        let b = get_or plan at 0 in
        small_by b (is_code b) (leb 1 stages && eqb b 16) (leb 1 stages && eqb b 17) (leb 1 stages && eqb b 18)
        (known-code b) (known-stage stages b 16 (omega arith)) (known-stage stages b 17 (omega arith)) (known-stage stages b 18 (omega arith))

  small-plan : (stages at : ℕ) → good (plan_at stages plan at) ≡ true → Small plan at (plan_size (plan_at stages plan at))
  unfolding plan_at plan_size
  small-plan zero at = small-next at bad bad (λ g i l. absurd (omega arith)) (λ g i l. absurd (omega arith)) 0
  small-plan (suc stages) at =
      let p = plan_at stages plan (at + 1) in
      small-next at p (plan_at stages plan (at + 1 + plan_size p)) (small-plan stages (at + 1)) (small-plan stages (at + 1 + plan_size p)) (suc stages)

zero-each : (xs : List ℕ) → all (eqb 0) xs ≡ true → (i : ℕ) → get_or xs i 0 ≡ 0
unfolding all
zero-each [] e i = refl
zero-each (x ∷ xs) e zero = sym (eqb-true 0 x (both_true (eqb 0 x) (all (eqb 0) xs) e).0)
zero-each (x ∷ xs) e (suc i) = zero-each xs (both_true (eqb 0 x) (all (eqb 0) xs) e).1 i

plan-bytes : (plan : List ℕ) → well_formed plan ≡ true → Below 256 plan
unfolding well_formed plan_of
plan-bytes plan e i =
    let (l, rest) = both_true (eqb (length plan) plan_bytes) _ e in
    let (g, z) = both_true (good (plan_of plan)) _ rest in
    let n = plan_size (plan_of plan) in
    by_order i n (λ below. let k : 0 + i ≡ i = omega arith in subst (λ (j : ℕ). get_or plan j 0 < 256) k (small-plan plan most_stages 0 g i below)) (λ above.
    let k : n + (i - n) ≡ i = omega arith in
    omega (arith, sym (get_or-drop n plan (i - n) 0) ∙ zero-each (drop n plan) z (i - n), ap (λ (j : ℕ). get_or plan j 0) k))

-- ---- an entry, a body, and all of them
module _ (edition : ℕ) (l : Listed) (w : Writable edition l) where
  entry-bytes : Below 256 (entry_laid edition l)
  unfolding entry_bytes judge_plan
  entry-bytes =
      let (formed, rest) = need-given (well_formed l.plan) bad_plan _ tt w.judged in
      let words = word (length l.numbers) ++ word (length (body_of l)) in
      below-cons 256 l.kind (l.plan ++ words) (omega (arith, w.kind))
      (below-append 256 l.plan words (plan-bytes l.plan formed)
      (below-append 256 (word (length l.numbers)) (word (length (body_of l))) (word_small (length l.numbers)) (word_small (length (body_of l)))))

  body_bytes : Below 256 (body_of l)
  body_bytes = bytes laws (plan_of l.plan) l.numbers w.small (omega (arith, w.few))

joined_bytes : (f : Listed → List ℕ) (ls : List Listed) → ((k : ℕ) → k < length ls → Below 256 (f (get_or ls k blank_listed))) → Below 256 (joined f ls)
unfolding joined
joined_bytes f [] h = below-nil 256 (omega arith)
joined_bytes f (l ∷ ls) h =
    below-append 256 (f l) (joined f ls) (h 0 (omega arith)) (joined_bytes f ls (λ (k : ℕ) (i : k < length ls). h (suc k) (omega arith)))

-- ---- the sheet
pub written-bytes : (edition : ℕ) (ls : List Listed) → AllWritable edition ls → is_edition edition ≡ true → length ls ≤ most_columns
    → Below 256 (sheet_bytes edition ls)
unfolding is_edition
written-bytes edition ls w known few =
    let last = leb-true edition last_edition (both_true (leb 1 edition) (leb edition last_edition) known).1 in
    let entries = joined (entry_laid edition) ls in
    let bodies = joined body_of ls in
    subst (Below 256) (sym (sheet-is edition ls))
    (below-cons 256 edition (length ls ∷ (entries ++ bodies)) (omega arith)
    (below-cons 256 (length ls) (entries ++ bodies) (omega (arith, few))
    (below-append 256 entries bodies (joined_bytes (entry_laid edition) ls (λ k h. entry-bytes edition (get_or ls k blank_listed) (w k h)))
    (joined_bytes body_of ls (λ k h. body_bytes edition (get_or ls k blank_listed) (w k h))))))
