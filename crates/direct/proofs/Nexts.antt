-- One number: in so many data bytes, from a data byte on, as a unit, and one after the other. Assumes nothing.
use Prim.Native.Nat.{ℕ, suc, ◌+◌, ◌-◌, ◌^◌, ◌≤◌, ◌<◌, min}
use mathlib.Core.Path.{◌≡◌, refl, sym, ap, ◌∙◌}
use mathlib.Core.Bool.{Bool, true, false}
use mathlib.Core.List.{List, [], ◌∷◌}
use native.Mathlib.Omega.{arith}
use lib.Dec.{leb, eqb}
use lib.ListN.{length, set, take, drop, replicate, length-set}
use lib.Seq.{length-sets}
use borrow.Author.Tests.{le-leb, lt-leb, eq-eqb, ne_eqb}
use Rattle.std.specs.Prelude.{Result, Ok, Err}
use Rattle.meaning.specs.Answer.{Answer, given, refused, bind, need}
use Rattle.meaning.specs.Bits.{zeros_first}
use Rattle.meaning.specs.Bytes.{number_of, word_at}
use Rattle.meaning.specs.Codes.{code_direct}
use Rattle.meaning.specs.DataBytes.{byte_length}
use Rattle.meaning.specs.Direct.{data_at, parts_fit, flags, number_in, unit_direct}
use Rattle.meaning.specs.Limits.{cut_short, broken}
use Rattle.meaning.specs.Places.{Target, Took, Ends, UnitIs}
use Rattle.meaning.specs.Positions.{at_bit}
use Rattle.meaning.specs.Says.{says, says_by, refusal_number}
use Rattle.meaning.specs.declared.Position.{Position}
use Rattle.meaning.specs.declared.Refusal.{Refusal}
use Rattle.meaning.specs.declared.Taken.{Taken}
use Rattle.meaning.proofs.Answers.{need-refused}
use Rattle.meaning.proofs.Codes.{spare-always}
use Rattle.meaning.proofs.UnitAnswers.{is-read, is-refused}
use Rattle.meaning.proofs.Taking.{Takes, takes-start, takes-next, takes-long, takes-end}
use Rattle.meaning.proofs.Tests.{by_order}
use Rattle.direct.specs.Parts.{Fit, next_in, next_told, Begun}
use Rattle.direct.specs.declared.input.Next.{Next}

-- ---- in so many data bytes
pub in-long : (body : List ℕ) (i l : ℕ) → 4 < l → number_in body i l ≡ refused broken
unfolding number_in
in-long body i l h = rw (lt-leb l 4 h)

module _ {body : List ℕ} {d : ℕ} (fit : Fit body d) (i l : ℕ) (few : l ≤ 4) {x : ℕ} (is : x ≡ number_of (take l (drop (data_at d + i) body))) where
  of-x : number_in body i l ≡ need (eqb (byte_length x) l) broken (given x)
  unfolding number_in
  of-x = rw (is, fit.is, le-leb l 4 few)

  pub in-given : byte_length x ≡ l → given x ≡ number_in body i l
  in-given e = rw of-x (rw (eq-eqb (byte_length x) l e))

  pub in-refused : (byte_length x ≡ l → ⊥) → refused broken ≡ number_in body i l
  in-refused ne = rw of-x (rw (ne_eqb (byte_length x) l ne))

-- ---- from a data byte on
abbrev behind : List ℕ → ℕ → ℕ
behind body i = zeros_first (drop i (flags body))

-- the bits do not end it
pub next-none : {body : List ℕ} {d : ℕ} → Fit body d → (i : ℕ) {len : ℕ} → len ≤ suc (behind body i) → d < i + len → refused broken ≡ next_in body i
unfolding next_in
next-none {body} {d} fit i {len} few h =
    rw (← fit.is, lt-leb (i + suc (behind body i)) d (omega arith))

-- it has so many data bytes; where there are more than four, five are refused as all are
next-is : {body : List ℕ} {d : ℕ} → Fit body d → (i : ℕ) {len : ℕ} → len ≡ min 4 (behind body i) + 1 → i + len ≤ d
    → next_in body i ≡ bind (number_in body i len) (λ x. given (x, i + len))
unfolding next_in
next-is {body} {d} fit i {len} e h =
    by_order 4 (behind body i)
    (λ b. let long : 4 < len = omega arith in
    rw (in-long body i len long, in-long body i (suc (behind body i)) (omega arith)) (need-refused (leb (i + suc (behind body i)) (word_at body 0)) broken))
    (λ b. let l : suc (behind body i) ≡ len = omega arith in
    rw (l, ← fit.is, le-leb (i + len) d h))

module _ {body : List ℕ} {d : ℕ} (fit : Fit body d) (i : ℕ) {len : ℕ} (e : len ≡ min 4 (behind body i) + 1) (h : i + len ≤ d)
    (r : Result ℕ Refusal) (told : says r ≡ number_in body i len) where
  next-told : next_in body i ≡ bind (says r) (λ x. given (x, i + len))
  next-told = rw told (next-is fit i e h)

  pub next-given : {x : ℕ} → r ≡ Ok x → given (x, i + len) ≡ next_in body i
  next-given q = sym (rw q at next-told)

  pub next-refused : {e : Refusal} → r ≡ Err e → refused (refusal_number e) ≡ next_in body i
  next-refused q = sym (rw q at next-told)

-- ---- as a unit
abbrev one_unit : ℕ × ℕ → Answer (Position × List ℕ)
one_unit t = given (at_bit t.1, t.0 ∷ [])

one_unit-need : (b : Bool) (m : Answer ℕ) (after : ℕ)
    → need b broken (bind m (λ x. one_unit (x, after))) ≡ bind (need {A = ℕ × ℕ} b broken (bind m (λ x. given (x, after)))) one_unit
one_unit-need true (given x) after = refl
one_unit-need true (refused e) after = refl
one_unit-need false m after = refl

module _ (body : List ℕ) (left : ℕ) (p : Position) where
  pub unit-unfit : {e : Refusal} → parts_fit body ≡ false → refusal_number e ≡ cut_short → UnitIs (unit_direct body left p) (Err e)
  unfolding unit_direct
  unit-unfit unfit is = is-refused (rw (unfit, is))

  unit-is : parts_fit body ≡ true → unit_direct body left p ≡ bind (next_in body p.bit.index) one_unit
  unfolding unit_direct next_in
  unit-is e =
      let i = p.bit.index in
      let l = suc (behind body i) in
      rw e (one_unit-need (leb (i + l) (word_at body 0)) (number_in body i l) (i + l))

  module _ {d : ℕ} (fit : Fit body d) (r : Result Next Refusal) (told : says_by next_told r ≡ next_in body p.bit.index) where
    unit-told : unit_direct body left p ≡ bind (says_by next_told r) one_unit
    unit-told = rw told (unit-is fit.fits)

    pub unit-given : {n : Next} → r ≡ Ok n → unit_direct body left p ≡ given (at_bit n.end.index, n.number ∷ [])
    unit-given e = rw e at unit-told

    pub unit-refused : {z : Refusal} → r ≡ Err z → UnitIs (unit_direct body left p) (Err z)
    unit-refused e = is-refused (rw e at unit-told)

    pub unit-here : {n : Next} → r ≡ Ok n
        → UnitIs (unit_direct body left p) (Ok (record { next = at_bit n.end.index; count = 1; numbers = n.number ∷ replicate 15 0 }))
    unit-here e = is-read (unit-given e) (omega arith) refl

-- of a position the bit alone matters
alike : (body : List ℕ) (left : ℕ) (p : Position) → unit_direct body left p ≡ unit_direct body left (at_bit p.bit.index)
unfolding unit_direct
alike body left p = refl

-- ---- one after the other: i numbers of at most `most` have been taken, and the next begins with data byte b
pub record Taking (body : List ℕ) (d left : ℕ) (at : Position) (w₀ : List ℕ) (from most : ℕ) (w : List ℕ) (i b : ℕ) : Type 0 where
  pub fit : Fit body d
  pub so : Takes code_direct body left at w₀ from w i i 0 (at_bit b)
  pub few : i ≤ most
  pub within : most ≤ left
  pub inside : from + most ≤ length w₀
  pub long : length w ≡ length w₀

module _ {body : List ℕ} {d left : ℕ} {at : Position} {w₀ : List ℕ} {from most : ℕ} where
  pub taking-start : Fit body d → {room : ℕ} → Target body w₀ from room → most ≡ min left room
      → Taking body d left at w₀ from most w₀ 0 at.bit.index
  taking-start fit {room} t e =
      record {
        fit = fit;
        so = takes-start code_direct body left at w₀ from (at_bit at.bit.index) (spare-always []) (λ k. alike body k at);
        few = omega arith;
        within = omega arith;
        inside = omega (arith, t.inside);
        long = refl;
      }

  -- what was begun goes on
  pub taking-again : Fit body d → most ≤ left → from + most ≤ length w₀ → {w : List ℕ} {r : Taken}
      → Begun body left at most from w₀ w r → Taking body d left at w₀ from most w r.count r.next.bit.index
  taking-again fit within inside {w} {r} begun =
      let took = begun.took in
      let ends = begun.ends in
      let so : Takes code_direct body left at w₀ from w r.count r.count 0 (at_bit r.next.bit.index) =
      record {
        numbers = took.numbers;
        last = took.last;
        q = r.next;
        are = rw ends.passed at took.are;
        counted = took.counted;
        here = took.here;
        leaves = rw ends.leaves at took.leaves;
        alike = λ k. alike body k r.next;
        stays = ends.stays;
        goes = ends.goes;
      } in
      record {
        fit = fit;
        so = so;
        few = took.few;
        within = within;
        inside = inside;
        long = takes-long code_direct body left at w₀ from w r.count r.count 0 (at_bit r.next.bit.index) so;
      }

  module _ {w : List ℕ} {i b : ℕ} (t : Taking body d left at w₀ from most w i b) where
    pub taking-turn : i < most → (r : Result Next Refusal) → says_by next_told r ≡ next_in body b → {n : Next} → r ≡ Ok n
        → Taking body d left at w₀ from most (set w (from + i) n.number) (i + 1) n.end.index
    taking-turn h r told {n} e =
        let more =
        takes-next code_direct body left at w₀ from w i i 0 (at_bit b) t.so refl (at_bit n.end.index, n.number ∷ []) (set w (from + i) n.number)
        (omega (arith, t.within)) (unit-given body (left - i) (at_bit b) t.fit r told e) (omega arith) (spare-always (n.number ∷ [])) refl in
        record {
          fit = t.fit;
          so = more;
          few = omega arith;
          within = t.within;
          inside = t.inside;
          long = takes-long code_direct body left at w₀ from (set w (from + i) n.number) (i + 1) (i + 1) 0 (at_bit n.end.index) more;
        }

    pub taking-end : {room : ℕ} {q : Position} {r : Taken} → most ≡ min left room → q ≡ at_bit b → Ends at i i 0 q r
        → Took code_direct body left at room from w₀ w r
    taking-end {room} {q} {r} m e ends =
        takes-end code_direct body left at w₀ from w i i 0 (at_bit b) t.so room r (omega (arith, t.few)) (rw e at ends)

-- ---- what was begun
pub begun-is : {body : List ℕ} {left : ℕ} {at : Position} {room from : ℕ} {w₀ w : List ℕ} {i b : ℕ} {r : Taken}
    → Took code_direct body left at room from w₀ w r → Ends at i i 0 (at_bit b) r → Begun body left at room from w₀ w r
begun-is {r = r} took ends =
    record {
      took = took;
      ends = record {
        counted = refl;
        passed = ends.passed ∙ sym ends.counted;
        leaves = ends.leaves;
        stays = λ z. ends.stays (sym ends.counted ∙ z);
        goes = λ h. let e = ends.goes (rw ends.counted at h) in e ∙ ap (λ (p : Position). at_bit p.bit.index) (sym e);
      };
    }

-- the length stays
pub begun-long : {body : List ℕ} {left : ℕ} {at : Position} {most from : ℕ} {w₀ w : List ℕ} {r : Taken} → Begun body left at most from w₀ w r
    → length w ≡ length w₀
begun-long {from = from} {w₀ = w₀} so = ap length so.took.here ∙ length-sets w₀ from so.took.numbers

-- ---- a loop that begins where i₁ numbers stand in w₁: whatever they were stored over, i stand in w now
pub record Onward (body : List ℕ) (d left : ℕ) (at : Position) (from most : ℕ) (w₁ : List ℕ) (i₁ b₁ : ℕ) (w : List ℕ) (i b : ℕ) : Type 0 where
  pub fit : Fit body d
  pub short : from + most < 2 ^ 62
  pub inside : from + most ≤ length w
  pub long : length w ≡ length w₁
  pub on : (w₀ : List ℕ) → Taking body d left at w₀ from most w₁ i₁ b₁ → Taking body d left at w₀ from most w i b

module _ {body : List ℕ} {d left : ℕ} {at : Position} {from most : ℕ} {w₁ : List ℕ} {i₁ b₁ : ℕ} where
  pub onward-turn : {w : List ℕ} {i b : ℕ} → Onward body d left at from most w₁ i₁ b₁ w i b
      → i < most → (r : Result Next Refusal) → says_by next_told r ≡ next_in body b → {n : Next} → r ≡ Ok n
      → Onward body d left at from most w₁ i₁ b₁ (set w (from + i) n.number) (i + 1) n.end.index
  onward-turn s h r told e =
      record {
        fit = s.fit;
        short = s.short;
        inside = simp length-set s.inside;
        long = simp length-set s.long;
        on = λ w₀ t. taking-turn (s.on w₀ t) h r told e;
      }

-- where they were begun
module _ {body : List ℕ} {d left : ℕ} {at : Position} {from most : ℕ} {w₁ : List ℕ} {begun : Taken} {w : List ℕ} {i b : ℕ}
    (s : Onward body d left at from most w₁ begun.count begun.next.bit.index w i b) where
  pub onward-long : {w₀ : List ℕ} → Begun body left at most from w₀ w₁ begun → length w ≡ length w₀
  onward-long so = s.long ∙ begun-long so

  pub onward-end : {w₀ : List ℕ} {room : ℕ} → most ≡ min left room → Begun body left at most from w₀ w₁ begun
      → {q : Position} {r : Taken} → q ≡ at_bit b → Ends at i i 0 q r → Took code_direct body left at room from w₀ w r
  onward-end {w₀} m so e ends =
      taking-end (s.on w₀ (taking-again s.fit (omega arith) (omega (arith, s.inside, onward-long so)) so)) m e ends

  pub onward-begun : {w₀ : List ℕ} {room : ℕ} → most ≡ min left room → Begun body left at most from w₀ w₁ begun
      → {q : Position} {r : Taken} → q ≡ at_bit b → Ends at i i 0 q r → Begun body left at room from w₀ w r
  onward-begun m so e ends = begun-is (onward-end m so e ends) (rw e at ends)
