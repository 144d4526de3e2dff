-- Bytes added behind a body of code 8: where its parts fit they stay as they are, and what is added is left over. Assumes nothing.
use Prim.Native.Nat.{ℕ, ◌+◌, ◌≤◌}
use mathlib.Core.Path.{◌≡◌, ap, ◌∙◌}
use mathlib.Core.Bool.{true, false}
use mathlib.Core.List.{List, [], ◌∷◌, ◌++◌}
use native.Mathlib.Omega.{arith}
use lib.Dec.{leb, eqb}
use lib.ListN.{length, take, drop, length-append, length-drop}
use lib.Seq.{take-append-le, drop-append-le}
use borrow.Author.Tests.{le-leb, leb-true}
use Rattle.meaning.specs.Bits.{low_bits}
use Rattle.meaning.specs.Bytes.{number_of, word_at}
use Rattle.meaning.specs.DataBytes.{byte_length}
use Rattle.meaning.specs.Direct.{flag_bytes, sums_at, data_at, parts_fit, flags, number_in, unit_direct, done_direct}
use Rattle.meaning.specs.Positions.{at_bit}
use Rattle.meaning.specs.declared.Position.{Position}
use Rattle.meaning.proofs.Lasting.{Lasts, lasts-given, lasts-there, lasts-rule, lasts-bind}
use Rattle.meaning.proofs.Tests.{by-test, true-both}
use Rattle.words.proofs.LowBits.{low-length, low-append}
use Rattle.words.proofs.Words.{word-stays}
use Rattle.direct.proofs.Holding.{body-headed, body-fits, size_at, ended}

module _ (body more : List ℕ) (fit : parts_fit body ≡ true) where
  word_same : word_at (body ++ more) 0 ≡ word_at body 0
  word_same = word-stays body more 0 (body-headed body fit)

  pub fits-still : parts_fit (body ++ more) ≡ true
  unfolding parts_fit
  fits-still =
      let d = word_at body 0 in
      let long = length-append body more in
      rw word_same
      (true-both (leb 4 (length (body ++ more))) (leb (data_at d + d) (length (body ++ more)))
      (le-leb 4 (length (body ++ more)) (omega (arith, body-headed body fit)))
      (le-leb (data_at d + d) (length (body ++ more)) (omega (arith, body-fits body fit))))

  flags-same : flags (body ++ more) ≡ flags body
  unfolding flags data_at sums_at flag_bytes
  flags-same =
      rw (word_same, drop-append-le 4 body more (body-headed body fit), low-append (drop 4 body) more)
      (take-append-le (word_at body 0) (low_bits (drop 4 body)) (low_bits more)
      (omega (arith, body-fits body fit, low-length (drop 4 body), length-drop 4 body)))

  -- a number whose last data byte is one of them
  number-lasts : (i l : ℕ) → i + l ≤ word_at body 0 → Lasts (λ (x : ℕ). Unit {0}) (number_in body i l) (number_in (body ++ more) i l)
  unfolding number_in
  number-lasts i l h =
      let at = data_at (word_at body 0) + i in
      let x = number_of (take l (drop at body)) in
      let there : take l (drop at (body ++ more)) ≡ take l (drop at body) =
      ap (take l) (drop-append-le at body more (omega (arith, body-fits body fit)))
      ∙ take-append-le l (drop at body) more (omega (arith, body-fits body fit, length-drop at body)) in
      rw (word_same, there) (lasts-rule (leb l 4) _ _ (λ few. lasts-rule (eqb (byte_length x) l) _ _ (λ size. lasts-given x tt)))

pub unit-lasts : (body more : List ℕ) (left : ℕ) (p : Position)
    → Lasts (λ (u : Position × List ℕ). parts_fit body ≡ true → parts_fit body ≡ true) (unit_direct body left p) (unit_direct (body ++ more) left p)
unfolding unit_direct
unit-lasts body more left p =
    let i = p.bit.index in
    let l = size_at body i in
    lasts-there (parts_fit body) (parts_fit (body ++ more)) _ _ (fits-still body more) (λ fit.
    rw (word_same body more fit, flags-same body more fit)
    (lasts-rule (leb (i + l) (word_at body 0)) _ _ (λ inside.
    lasts-bind (number_in body i l) (number_in (body ++ more) i l) _ _
    (number-lasts body more fit i l (leb-true (i + l) (word_at body 0) inside)) (λ x e u. lasts-given (at_bit (i + l), x ∷ []) (λ h. h)))))

pub over : (body : List ℕ) (b : ℕ) (more : List ℕ) (p : Position) → parts_fit body ≡ true → done_direct (body ++ (b ∷ more)) p ≡ false
over body b more p fit =
    let long = body ++ (b ∷ more) in
    let word = word_same body (b ∷ more) fit in
    by-test (done_direct long p)
    (λ done. let whole = rw word at (ended long p done).closed.whole in
    absurd (omega (arith, whole, body-fits body fit, length-append body (b ∷ more))))
    (λ not. not)
