-- Code 8 is lawful: what it writes reads back, what it reads is what would be written, its size is as told, and a number is found directly. Assumes nothing.
use Prim.Native.Nat.{ℕ, ◌+◌, ◌/◌, ◌≤◌}
use mathlib.Core.Path.{◌≡◌, subst}
use mathlib.Core.List.{List, [], ◌++◌}
use native.Mathlib.Omega.{arith}
use lib.ListN.{length}
use Rattle.meaning.specs.Answer.{given}
use Rattle.meaning.specs.Codes.{code_direct, read_code, always}
use Rattle.meaning.specs.DataBytes.{data_bytes}
use Rattle.meaning.specs.Direct.{flag_bytes, sum_count, sums_at, data_at, last_bits, write_direct, worst_direct}
use Rattle.meaning.specs.Direct.{parts_fit, unit_direct, done_direct, look_direct}
use Rattle.meaning.specs.Limits.{cut_short, number_limit, most_numbers}
use Rattle.meaning.specs.Lists.{joined}
use Rattle.meaning.specs.Places.{Below}
use Rattle.meaning.specs.Positions.{at_bit}
use Rattle.meaning.specs.declared.Position.{Position}
use Rattle.meaning.proofs.Answers.{bind-given, need-given}
use Rattle.meaning.proofs.Codes.{spare-always}
use Rattle.meaning.proofs.Lasting.{lasts-given, lasts-there}
use Rattle.meaning.proofs.Lawful.{Lawful, Read, Direct}
use Rattle.meaning.proofs.Units.{read-many, read-written, read-holds}
use Rattle.words.proofs.DataBytes.{data-most}
use Rattle.direct.proofs.Holding.{good, Holds, HoldsAt, whole}
use Rattle.direct.proofs.Written.{parts-length, written-holds, written_small, holds-written}
use Rattle.direct.proofs.Lookups.{look-faulty, look-holds}
use Rattle.direct.proofs.Followed.{fits-still, unit-lasts, over}

forth : (xs : List ℕ) → length xs ≤ most_numbers → Below number_limit xs → read_code code_direct (write_direct xs) (length xs) ≡ given xs
unfolding read_code
forth xs few small =
    let body = write_direct xs in
    let h = written-holds xs few small in
    rw h.closed.fit
    (read-written (unit_direct body) always (done_direct body) (good body) (HoldsAt body) (whole body (written_small xs)) [] (at_bit 0) xs h)

-- a body that reads as a list holds it, from its first data byte on
record Reads (body : List ℕ) (n : ℕ) (xs : List ℕ) : Type 0 where
  pub holds : Holds body 0 xs
  pub many : length xs ≡ n

reads : (body : List ℕ) (n : ℕ) (xs : List ℕ) → Below 256 body → read_code code_direct body n ≡ given xs → Reads body n xs
unfolding read_code
reads body n xs b e =
    let (p, ep, er) = bind-given (code_direct.start body n) _ xs e in
    let (fit, eq) = need-given (parts_fit body) cut_short (given (at_bit 0)) p ep in
    let at : p ≡ at_bit 0 = cc in
    let h = read-holds (unit_direct body) always (done_direct body) (good body) (HoldsAt body) (whole body b) n [] p xs er in
    record {
      holds = subst (λ (q : Position). Holds body q.bit.index xs) at h;
      many = read-many (unit_direct body) always (done_direct body) (good body) n [] p xs er;
    }

back : (body : List ℕ) (n : ℕ) (xs : List ℕ) → Below 256 body → read_code code_direct body n ≡ given xs → Read code_direct body n xs
back body n xs b e =
    let r = reads body n xs b e in
    record { bytes = holds-written body xs b r.holds; many = r.many; small = r.holds.small }

most : (xs : List ℕ) → length (write_direct xs) ≤ worst_direct (length xs)
unfolding write_direct worst_direct data_at sums_at flag_bytes sum_count
most xs =
    let d = length (data_bytes xs) in
    let n = length xs in
    let few = data-most xs in
    let bits : (d + 7) / 8 ≤ (n + 1) / 2 = omega arith in
    let sums : d / 512 ≤ n / 128 = omega arith in
    omega (arith, parts-length d (joined last_bits xs) (data_bytes xs))

direct : Direct code_direct look_direct
unfolding look_direct
direct =
    record {
      agrees = λ body n xs b e place inside. look-holds body xs (reads body n xs b e).holds place inside;
      faulty = look-faulty;
    }

pub lawful : Lawful code_direct
unfolding worst_direct
lawful =
    record {
      good = λ body b. good body;
      inside = λ body p. parts_fit body;
      starts = λ body more n. lasts-there (parts_fit body) (parts_fit (body ++ more)) _ _ (fits-still body more) (λ fit. lasts-given (at_bit 0) fit);
      units = unit-lasts;
      over = over;
      fresh = spare-always [];
      forth = forth;
      back = back;
      most = λ xs small. most xs;
      bytes = λ xs small. written_small xs;
      grows = λ k n h. omega arith;
      nine = λ n. omega arith;
      looked = direct;
    }
