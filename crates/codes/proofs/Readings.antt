-- What the walk of a strict reading knows. Assumes nothing.
use Prim.Native.Nat.{ℕ, ◌+◌, ◌-◌, ◌^◌, ◌≤◌, ◌<◌}
use mathlib.Core.Path.{◌≡◌, refl, sym, ap, ◌∙◌}
use mathlib.Core.Bool.{true, false}
use mathlib.Core.List.{List, []}
use native.Mathlib.Nat.{add-zero}
use native.Mathlib.Omega.{arith}
use borrow.Author.Tests.{lt-ltb, le-ltb}
use Rattle.std.specs.Prelude.{Result, Ok, Err}
use lib.ListN.{length, get_or, take, drop}
use lib.Seq.{sets, take_all, get_or-take, get_or-drop}
use Rattle.meaning.specs.Answer.{Answer, given, refused, bind, amount}
use Rattle.meaning.specs.Codes.{code_of, read_code}
use Rattle.meaning.specs.DataBytes.{byte_length}
use Rattle.meaning.specs.Limits.{broken}
use Rattle.meaning.specs.Places.{Below, Spare, Target, Got}
use Rattle.meaning.specs.Units.{read_units}
use Rattle.meaning.specs.Says.{refusal_number, says}
use Rattle.meaning.specs.declared.Position.{Position}
use Rattle.meaning.specs.declared.Refusal.{Refusal}
use Rattle.meaning.specs.declared.Refusal.TheVariants.{Broken}
use Rattle.meaning.specs.declared.Taken.{Taken}
use Rattle.meaning.proofs.Answers.{not-given}
use Rattle.meaning.proofs.Loops.{ReadSo, read-start, read-refuse, read-unjoined, read-end, got-refused, got-whole}
use Rattle.meaning.proofs.Stores.{part-sets, take-sets}
use Rattle.meaning.proofs.Stretches.{read-stretch, stretch-first, stretch-few}
use Rattle.codes.specs.Goes.{Passed, Goes}
use Rattle.codes.proofs.Numbered.{laws}
use Rattle.codes.proofs.Stretches.{goes-refused}

-- i numbers of n have been read and stand in work, the next unit is at p, and the last left so many bytes spare
pub record Reading (code : ℕ) (body : List ℕ) (n : ℕ) (w₀ : List ℕ) (from : ℕ) (w : List ℕ) (i : ℕ) (p : Position) (spare : ℕ) : Type 0 where
  pub bytes : Below 256 body
  pub target : Target body w₀ from n
  pub low : from + n < 2 ^ 63
  pub first : Position
  pub start : (code_of code).start body n ≡ given first
  pub before : List ℕ
  pub so : ReadSo ((code_of code).unit body) (code_of code).joins ((code_of code).done body) n first w₀ from w i before p
  pub leaves : Spare (code_of code).joins before spare

module _ (code : ℕ) (body : List ℕ) (n : ℕ) {s : Result Position Refusal} (is : says s ≡ (code_of code).start body n) {from : ℕ} {w : List ℕ} where
  pub reading-start : Below 256 body → Target body w from n → from + n < 2 ^ 63 → {p : Position} → s ≡ Ok p → Reading code body n w from w 0 p 0
  reading-start b t low {p} e =
      record {
        bytes = b;
        target = t;
        low = low;
        first = p;
        start = sym is ∙ ap says e;
        before = [];
        so = read-start ((code_of code).unit body) (code_of code).joins ((code_of code).done body) n p w from;
        leaves = (laws code).fresh;
      }

  pub got-no-start : {e : Refusal} → s ≡ Err e → Got (read_code (code_of code) body n) from w w (Err e)
  unfolding read_code
  got-no-start {e} q =
      let z : read_code (code_of code) body n ≡ refused (refusal_number e) =
      ap (λ (a : Answer Position). bind a (read_units ((code_of code).unit body) (code_of code).joins ((code_of code).done body) n []))
      (sym is ∙ ap says q) in
      record { told = ap amount (sym z); here = λ xs g. absurd (not-given _ xs (sym z ∙ g)); kept = refl }

module _ {code : ℕ} {body : List ℕ} {n : ℕ} {w₀ : List ℕ} {from : ℕ} {w : List ℕ} {i : ℕ} {p : Position} {spare : ℕ}
    (r : Reading code body n w₀ from w i p spare) where
  read_is : read_code (code_of code) body n ≡ read_units ((code_of code).unit body) (code_of code).joins ((code_of code).done body) n [] r.first
  unfolding read_code
  read_is = rw r.start

  pub got_fault : (z : Refusal)
      → read_units ((code_of code).unit body) (code_of code).joins ((code_of code).done body) n [] r.first ≡ refused (refusal_number z)
      → Got (read_code (code_of code) body n) from w₀ w (Err z)
  got_fault z e =
      got-refused ((code_of code).unit body) (code_of code).joins ((code_of code).done body) n r.first w₀ from ((laws code).good body r.bytes) w i
      r.before p r.so
      (read_code (code_of code) body n) read_is z (read_is ∙ e)

  -- the next unit is refused
  pub got-unit-refused : i < n → {room at : ℕ} {w' : List ℕ} {g : Result Taken Refusal} → Goes (code_of code) body (n - i) p room at w w' g
      → {e : Refusal} → g ≡ Err e → Got (read_code (code_of code) body n) from w₀ w' (Err e)
  got-unit-refused h goes {e} q =
      let (z, same) = goes-refused goes q in
      rw same
      (got_fault e
      (read-refuse ((code_of code).unit body) (code_of code).joins ((code_of code).done body) n r.first w₀ from ((laws code).good body r.bytes) w i
      r.before p r.so (refusal_number e) h z))

  module _ (h : i < n) {w' : List ℕ} {t : Taken} (went : Passed (code_of code) body (n - i) p (n - i) (from + i) w w' t) where
    all-few : length went.numbers ≤ n - i
    all-few = stretch-few ((code_of code).unit body) (code_of code).joins (n - i) p ((laws code).good body r.bytes) went.are

    pub reading-few : i + t.count ≤ n
    reading-few = omega (arith, all-few, went.counted)

    -- all its numbers stand in work
    stands : w' ≡ sets w (from + i) went.numbers
    stands = went.here ∙ ap (sets w (from + i)) (take_all (n - i) went.numbers all-few)

    -- the first of them
    pub first-is : get_or w' (from + i) 0 ≡ get_or went.numbers 0 0
    first-is =
        let long : length went.numbers ≡ t.count = went.counted in
        let some = went.some in
        let fits : from + i + length went.numbers ≤ length w = omega (arith, all-few, r.target.inside, r.so.long) in
        let z : from + i + 0 ≡ from + i = add-zero (from + i) in
        ap (λ (k : ℕ). get_or w' k 0) (sym z) ∙ sym (get_or-drop (from + i) w' 0 0)
        ∙ sym (get_or-take (length went.numbers) (drop (from + i) w') 0 0 (omega arith))
        ∙ ap (λ (k : List ℕ). get_or (take (length went.numbers) (drop (from + i) k)) 0 0) stands
        ∙ ap (λ (k : List ℕ). get_or k 0 0) (part-sets went.numbers w (from + i) fits)

    -- the first unit may follow the one before
    pub reading-on : spare < byte_length (get_or w' (from + i) 0) → Reading code body n w₀ from w' (i + t.count) t.next t.spare
    reading-on b =
        let some : 0 < length went.numbers = omega (arith, went.counted, went.some) in
        let joins : (ys : List ℕ) → get_or ys 0 0 ≡ get_or went.numbers 0 0 → (code_of code).joins r.before ys ≡ true =
        λ ys e. r.leaves ys ∙ lt-ltb spare (byte_length (get_or ys 0 0)) (rw (e, ← first-is) b) in
        let s = read-stretch ((code_of code).unit body) (code_of code).joins ((code_of code).done body) n r.first w₀ from ((laws code).good body r.bytes)
        r.target.inside
        w i r.before p r.so went.are some joins in
        record {
          bytes = r.bytes;
          target = r.target;
          low = r.low;
          first = r.first;
          start = r.start;
          before = went.last;
          so = rw (stands, ← went.counted) s;
          leaves = went.leaves;
        }

    -- it may not
    pub got-unjoined : byte_length (get_or w' (from + i) 0) ≤ spare → Got (read_code (code_of code) body n) from w₀ w' (Err Broken)
    got-unjoined b =
        let some : 0 < length went.numbers = omega (arith, went.counted, went.some) in
        let (u, eu, e) = stretch-first ((code_of code).unit body) (code_of code).joins (n - i) p ((laws code).good body r.bytes) went.are some in
        let j : (code_of code).joins r.before u.1 ≡ false = r.leaves u.1 ∙ le-ltb spare (byte_length (get_or u.1 0 0)) (rw (e, ← first-is) b) in
        let z : read_code (code_of code) body n ≡ refused broken =
        read_is
        ∙ read-unjoined ((code_of code).unit body) (code_of code).joins ((code_of code).done body) n r.first w₀ from ((laws code).good body r.bytes) w i
        r.before p r.so u h eu j in
        record {
          told = ap amount (sym z);
          here = λ xs g. absurd (not-given _ xs (sym z ∙ g));
          kept = ap (take from) stands ∙ take-sets went.numbers w from (from + i) (omega arith) ∙ r.so.kept;
        }

  -- all is read
  module _ (h : n ≤ i) where
    pub got-all : (code_of code).done body p ≡ true → Got (read_code (code_of code) body n) from w₀ w (Ok n)
    got-all d =
        got-whole ((code_of code).unit body) (code_of code).joins ((code_of code).done body) n r.first w₀ from ((laws code).good body r.bytes) w i
        r.before p r.so
        (read_code (code_of code) body n) read_is h d

    pub got-left-over : (code_of code).done body p ≡ false → Got (read_code (code_of code) body n) from w₀ w (Err Broken)
    got-left-over d =
        got_fault Broken
        (read-end ((code_of code).unit body) (code_of code).joins ((code_of code).done body) n r.first w₀ from ((laws code).good body r.bytes) w i
        r.before p r.so h ∙ rw d)
