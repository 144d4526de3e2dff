-- Codes 2, 4 and 7 are lawful: what they write reads back, what they read is what would be written, their size is as told, and bytes behind are left over.
-- Assumes nothing.
use Prim.Native.Nat.{ℕ, ◌+◌, ◌-◌, ◌≤◌, ◌<◌}
use mathlib.Core.Path.{◌≡◌, refl, sym, ap, ap₂, ◌∙◌, subst}
use mathlib.Core.Bool.{true}
use mathlib.Core.List.{List, [], ◌++◌}
use native.Mathlib.Omega.{arith}
use lib.Dec.{leb}
use lib.ListN.{length, take, drop, length-append, length-take, length-drop, drop_of_length-le, take-append-drop}
use lib.Seq.{drop-append_seam, drop-drop, take-add, take_at, drop_at, length-take-le}
use borrow.Author.Tests.{eq-eqb, eqb-true, le-leb}
use Rattle.meaning.specs.Answer.{given}
use Rattle.meaning.specs.Codes.{code_by, code_groups, code_stream, code_batches, read_code, always, to_last}
use Rattle.meaning.specs.DataBytes.{data_bytes}
use Rattle.meaning.specs.Groups.{Grouping, fours, group_count, controls, write_groups, write_stream, unit_groups, unit_stream}
use Rattle.meaning.specs.Limits.{cut_short, number_limit}
use Rattle.meaning.specs.Lists.{joined}
use Rattle.meaning.specs.Places.{Below, part}
use Rattle.meaning.specs.Positions.{at_byte, at_control}
use Rattle.meaning.specs.declared.Position.{Position}
use Rattle.meaning.proofs.Answers.{bind-given, need-given}
use Rattle.meaning.proofs.Bounds.{below-append}
use Rattle.meaning.proofs.Codes.{spare-always, past_end, first-lasts, left_over}
use Rattle.meaning.proofs.Lasting.{Lasts, lasts-given, lasts-long}
use Rattle.meaning.proofs.Lawful.{Lawful, Read}
use Rattle.meaning.proofs.Units.{Whole, read-many, read-written, read-holds}
use Rattle.words.proofs.DataBytes.{data-most, data-small}
use Rattle.groups.specs.Layouts.{unit_by, behind, apart, to_tail}
use Rattle.groups.proofs.Controls.{Fields, fours-fields, batches-fields}
use Rattle.groups.proofs.Pieces.{groups-next, groups_none, groups-small, groups-size}
use Rattle.groups.proofs.Pieces.{controls-none, controls-split, controls-count, controls-small, data-next, stream-size}
use Rattle.groups.proofs.Grouped.{First, Chain, Reach, within, unit-lasts, good, whole, Holds}

-- ---- codes 2 and 7: the data follows its control bytes
record GroupsAt (g : Grouping) (body : List ℕ) (at : ℕ) (xs : List ℕ) : Type 0 where
  pub inside : at ≤ length body
  pub bytes : drop at body ≡ write_groups g xs

-- three parts of a body, one behind the other
record Parts (body : List ℕ) (at m : ℕ) (xs ys zs : List ℕ) : Type 0 where
  pub there : m ≤ length (drop at body)
  pub first : part body at m ≡ xs
  pub second : drop (at + m) body ≡ ys ++ drop (at + m + length ys) body
  pub third : drop (at + m + length ys) body ≡ zs
  pub inside : at + m + length ys ≤ length body

parts : (body : List ℕ) (at m : ℕ) (xs ys zs : List ℕ) → at ≤ length body → length xs ≡ m → drop at body ≡ xs ++ (ys ++ zs) → Parts body at m xs ys zs
parts body at m xs ys zs inside many is =
    let n = ap length is ∙ length-append xs (ys ++ zs) in
    let k = length-append ys zs in
    let tail : drop (at + m) body ≡ ys ++ zs = sym (drop-drop m at body) ∙ ap (drop m) is ∙ drop_at xs (ys ++ zs) m many in
    let third : drop (at + m + length ys) body ≡ zs = sym (drop-drop (length ys) (at + m) body) ∙ rw tail (drop-append_seam ys zs) in
    record {
      there = omega arith;
      first = ap (take m) is ∙ take_at xs (ys ++ zs) m many;
      second = rw third tail;
      third = third;
      inside = omega (arith, length-drop at body);
    }

module _ {g : Grouping} (by : Fields g) (body : List ℕ) where
  abbrev GroupsHold : Position → List ℕ → Type 0
  GroupsHold p = GroupsAt g body p.head.byte

  groups-chain : Chain (behind g) body GroupsHold
  groups-chain =
      record {
        apart = λ p xs some h.
            let ys = take g.most xs in
            let t = parts body p.head.byte (group_count (length ys)) (controls g ys) (data_bytes ys) (write_groups g (drop g.most xs)) h.inside
            (controls-count g ys) (h.bytes ∙ groups-next by xs some) in
            (record { there = t.there; bytes = t.first; is = t.second }, record { inside = t.inside; bytes = t.third });
        together = λ p xs some first rest.
            let at = p.head.byte in
            let ys = take g.most xs in
            let m = group_count (length ys) in
            record {
              inside = omega (arith, rest.inside);
              bytes =
                  sym (take-append-drop m (drop at body))
                  ∙ ap₂ ◌++◌ first.bytes (drop-drop m at body ∙ first.is ∙ ap (λ (l : List ℕ). data_bytes ys ++ l) rest.bytes)
                  ∙ sym (groups-next by xs some);
            };
      }

  groups-whole : Below 256 body → Whole (unit_by (behind g) body) always (to_last body) (Holds (behind g) by body GroupsHold groups-chain)
  groups-whole low =
      whole (behind g) by body GroupsHold groups-chain (to_last body) low
      (λ p h. let n = sym (length-drop p.head.byte body) ∙ ap length (h.bytes ∙ groups_none by) in
      eq-eqb p.head.byte (length body) (omega (arith, h.inside)))
      (λ p e. let q = eqb-true p.head.byte (length body) e in
      record { inside = omega arith; bytes = drop_of_length-le body {i = p.head.byte} (omega arith) ∙ sym (groups_none by) })

  groups-back : (n : ℕ) (xs : List ℕ) → Below 256 body → read_code (code_by g) body n ≡ given xs → Read (code_by g) body n xs
  unfolding read_code unit_groups
  groups-back n xs low e =
      let h = read-holds (unit_by (behind g) body) always (to_last body) (good (behind g) by body) _ (groups-whole low) n [] (at_byte 0) xs e in
      record {
        bytes = sym h.0.bytes;
        many = read-many (unit_by (behind g) body) always (to_last body) (good (behind g) by body) n [] (at_byte 0) xs e;
        small = h.1;
      }

groups-forth : {g : Grouping} → Fields g → (xs : List ℕ) → Below number_limit xs → read_code (code_by g) (write_groups g xs) (length xs) ≡ given xs
unfolding read_code unit_groups
groups-forth {g} by xs small =
    let body = write_groups g xs in
    read-written (unit_by (behind g) body) always (to_last body) (good (behind g) by body) _ (groups-whole by body (groups-small by xs)) [] (at_byte 0) xs
    (record { inside = omega arith; bytes = refl }, small)

abbrev head_byte : Position → ℕ
head_byte p = p.head.byte

behind-reach : (g : Grouping) → Reach (behind g) head_byte
behind-reach g = record { ends = λ m p end. refl; begins = λ m p long h there. omega arith }

lawful-by : {g : Grouping} → Fields g → Lawful (code_by g)
unfolding unit_groups group_count
lawful-by {g} by =
    record {
      good = λ body low. good (behind g) by body;
      inside = within head_byte;
      starts = first-lasts;
      units = unit-lasts (behind-reach g);
      over = left_over;
      fresh = spare-always [];
      forth = λ xs few h. groups-forth by xs h;
      back = λ body n xs low. groups-back by body n xs low;
      most = λ xs small. omega (arith, groups-size by xs, data-most xs);
      bytes = λ xs small. groups-small by xs;
      grows = λ k n h. omega arith;
      nine = λ n. omega arith;
      looked = tt;
    }

pub lawful-groups : Lawful code_groups
lawful-groups = lawful-by fours-fields

pub lawful-batches : Lawful code_batches
lawful-batches = lawful-by batches-fields

-- ---- Stream VByte: control bytes and data apart
record StreamAt (body : List ℕ) (c d : ℕ) (xs : List ℕ) : Type 0 where
  pub inside : d ≤ length body
  pub bytes : part body c (group_count (length xs)) ≡ controls fours xs
  pub data_is : drop d body ≡ data_bytes xs

-- a list's control bytes are its first group's and those of the rest
count-split : (xs : List ℕ) → 0 < length xs → group_count (length xs) ≡ group_count (length (take 4 xs)) + group_count (length (drop 4 xs))
unfolding group_count
count-split xs some = omega (arith, length-take 4 xs, length-drop 4 xs)

abbrev StreamHolds : List ℕ → Position → List ℕ → Type 0
StreamHolds body p = StreamAt body p.head.byte p.tail.byte

stream-apart : (body : List ℕ) (p : Position) (xs : List ℕ) → 0 < length xs → StreamHolds body p xs
    → First apart body p (take 4 xs)
    × StreamAt body (p.head.byte + group_count (length (take 4 xs))) (p.tail.byte + length (data_bytes (take 4 xs))) (drop 4 xs)
stream-apart body p xs some h =
    let at = p.head.byte in
    let from = p.tail.byte in
    let ys = take 4 xs in
    let zs = drop 4 xs in
    let m = group_count (length ys) in
    let k = group_count (length zs) in
    let both : take (m + k) (drop at body) ≡ controls fours ys ++ controls fours zs = rw (← (count-split xs some)) (h.bytes ∙ controls-split fours xs) in
    let halves = sym (take-add m k (drop at body)) ∙ both in
    let fit = sym (length-take (m + k) (drop at body)) ∙ ap length both ∙ length-append (controls fours ys) (controls fours zs) in
    let there : m ≤ length (drop at body) = omega (arith, controls-count fours ys, controls-count fours zs) in
    let here = length-take-le m (drop at body) there in
    let first : part body at m ≡ controls fours ys =
    sym (take_at (part body at m) _ m here) ∙ ap (take m) halves ∙ take_at (controls fours ys) _ m (controls-count fours ys) in
    let others : take k (drop m (drop at body)) ≡ controls fours zs =
    sym (drop_at (part body at m) _ m here) ∙ ap (drop m) halves ∙ drop_at (controls fours ys) _ m (controls-count fours ys) in
    let split = h.data_is ∙ data-next 4 xs in
    let n : length (data_bytes ys) + length (data_bytes zs) ≡ length body - from =
    sym (length-append (data_bytes ys) (data_bytes zs)) ∙ sym (ap length split) ∙ length-drop from body in
    let rest : drop (from + length (data_bytes ys)) body ≡ data_bytes zs =
    sym (drop-drop (length (data_bytes ys)) from body) ∙ rw split (drop-append_seam (data_bytes ys) (data_bytes zs)) in (
      record { there = there; bytes = first; is = rw rest split },
      record { inside = omega (arith, h.inside); bytes = rw (drop-drop m at body) at others; data_is = rest },
    )

stream-together : (body : List ℕ) (p : Position) (xs : List ℕ) → 0 < length xs → First apart body p (take 4 xs)
    → StreamAt body (p.head.byte + group_count (length (take 4 xs))) (p.tail.byte + length (data_bytes (take 4 xs))) (drop 4 xs) → StreamHolds body p xs
stream-together body p xs some first rest =
    let at = p.head.byte in
    let ys = take 4 xs in
    let m = group_count (length ys) in
    let k = group_count (length (drop 4 xs)) in
    record {
      inside = omega (arith, rest.inside);
      bytes =
          ap (part body at) (count-split xs some)
          ∙ take-add m k (drop at body)
          ∙ ap₂ ◌++◌ first.bytes (ap (take k) (drop-drop m at body) ∙ rest.bytes)
          ∙ sym (controls-split fours xs);
      data_is = first.is ∙ ap (λ (l : List ℕ). data_bytes ys ++ l) rest.data_is ∙ sym (data-next 4 xs);
    }

stream-chain : (body : List ℕ) → Chain apart body (StreamHolds body)
stream-chain body = record { apart = stream-apart body; together = stream-together body }

stream-whole : (body : List ℕ) → Below 256 body
    → Whole (unit_by apart body) always (to_tail body) (Holds apart fours-fields body (StreamHolds body) (stream-chain body))
unfolding data_bytes joined group_count
stream-whole body low =
    whole apart fours-fields body (StreamHolds body) (stream-chain body) (to_tail body) low
    (λ p h. let n = sym (length-drop p.tail.byte body) ∙ ap length h.data_is in eq-eqb p.tail.byte (length body) (omega (arith, h.inside)))
    (λ p e. let q = eqb-true p.tail.byte (length body) e in
    record { inside = omega arith; bytes = sym (controls-none fours); data_is = drop_of_length-le body {i = p.tail.byte} (omega arith) })

stream-small : (xs : List ℕ) → Below 256 (write_stream xs)
unfolding write_stream
stream-small xs = below-append 256 (controls fours xs) (data_bytes xs) (controls-small fours-fields xs) (data-small xs)

-- a written body holds its list
stream_at : (xs : List ℕ) → StreamAt (write_stream xs) 0 (group_count (length xs)) xs
unfolding write_stream
stream_at xs =
    record {
      inside = omega (arith, length-append (controls fours xs) (data_bytes xs), controls-count fours xs);
      bytes = take_at (controls fours xs) (data_bytes xs) (group_count (length xs)) (controls-count fours xs);
      data_is = drop_at (controls fours xs) (data_bytes xs) (group_count (length xs)) (controls-count fours xs);
    }

stream-forth : (xs : List ℕ) → Below number_limit xs → read_code code_stream (write_stream xs) (length xs) ≡ given xs
unfolding read_code unit_stream
stream-forth xs small =
    let body = write_stream xs in
    let fits : group_count (length xs) ≤ length body = omega (arith, stream-size xs) in
    rw (le-leb (group_count (length xs)) (length body) fits)
    (read-written (unit_by apart body) always (to_tail body) (good apart fours-fields body) _ (stream-whole body (stream-small xs)) []
    (at_control 0 (group_count (length xs))) xs (stream_at xs, small))

stream-back : (body : List ℕ) (n : ℕ) (xs : List ℕ) → Below 256 body → read_code code_stream body n ≡ given xs → Read code_stream body n xs
unfolding read_code unit_stream write_stream
stream-back body n xs low e =
    let (p, ep, er) = bind-given (code_stream.start body n) _ xs e in
    let (t, eq) = need-given (leb (group_count n) (length body)) cut_short (given (at_control 0 (group_count n))) p ep in
    let many : length xs ≡ n = read-many (unit_by apart body) always (to_tail body) (good apart fours-fields body) n [] p xs er in
    let (h, small) = read-holds (unit_by apart body) always (to_tail body) (good apart fours-fields body) _ (stream-whole body low) n [] p xs er in
    let at : p ≡ at_control 0 (group_count (length xs)) = rw many (cc) in
    let h' : StreamAt body 0 (group_count (length xs)) xs = subst (λ (q : Position). StreamHolds body q xs) at h in
    record {
      bytes = ap₂ ◌++◌ (sym h'.bytes) (sym h'.data_is) ∙ take-append-drop (group_count (length xs)) body;
      many = many;
      small = small;
    }

abbrev tail-byte : Position → ℕ
tail-byte p = p.tail.byte

apart-reach : Reach apart tail-byte
apart-reach = record { ends = λ m p end. refl; begins = λ m p long h there. h }

stream-starts : (body more : List ℕ) (n : ℕ)
    → Lasts (λ p. within tail-byte body p ≡ true) (code_stream.start body n) (code_stream.start (body ++ more) n)
stream-starts body more n =
    let m = group_count n in
    lasts-long m body more _ _ (λ there. lasts-given (at_control 0 m) (le-leb m (length body) there))

pub lawful-stream : Lawful code_stream
unfolding unit_stream group_count
lawful-stream =
    record {
      good = λ body low. good apart fours-fields body;
      inside = within tail-byte;
      starts = stream-starts;
      units = unit-lasts apart-reach;
      over = λ body b more p. past_end p.tail.byte body b more;
      fresh = spare-always [];
      forth = λ xs few h. stream-forth xs h;
      back = stream-back;
      most = λ xs small. omega (arith, stream-size xs, data-most xs);
      bytes = λ xs small. stream-small xs;
      grows = λ k n h. omega arith;
      nine = λ n. omega arith;
      looked = tt;
    }
