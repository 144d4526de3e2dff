-- A number in 4 bytes: written, read and put together again, and two of them as one of 8. Assumes nothing.
use Prim.Native.Nat.{ℕ, ◌+◌, ◌*◌, ◌≤◌, ◌<◌}
use mathlib.Core.Path.{◌≡◌, sym, ap, ◌∙◌}
use mathlib.Core.List.{List, ◌++◌}
use native.Mathlib.Omega.{arith}
use lib.ListN.{length, take, drop, length-append, length-drop, take-append-drop}
use lib.Seq.{take_at, drop_at, take-take, take-add, drop-drop, length-take-le, take-append-le, drop-append-le}
use Rattle.meaning.specs.Bytes.{bytes_of, number_of, word, word_at}
use Rattle.meaning.specs.Limits.{number_limit}
use Rattle.meaning.specs.Places.{Below}
use Rattle.meaning.proofs.Bounds.{below-take, below-drop}
use Rattle.words.proofs.Bytes.{bytes-length, bytes_small, number-bytes, bytes-number, number-split}
use Rattle.leaves.proofs.Parts.{part_length}

module _ (x : ℕ) where
  pub word-length : length (word x) ≡ 4
  unfolding word
  word-length = bytes-length 4 x

  pub word_small : Below 256 (word x)
  unfolding word
  word_small = bytes_small 4 x

  module _ (rest : List ℕ) where
    pub word-long : length (word x ++ rest) ≡ 4 + length rest
    word-long = length-append (word x) rest ∙ ap (λ (k : ℕ). k + length rest) word-length

    pub word_first : x < number_limit → word_at (word x ++ rest) 0 ≡ x
    unfolding word word_at
    word_first h = ap number_of (take_at (bytes_of 4 x) rest 4 (bytes-length 4 x)) ∙ number-bytes 4 x h

    pub word_after : drop 4 (word x ++ rest) ≡ rest
    word_after = drop_at (word x) rest 4 word-length

    pub word_next : word_at (word x ++ rest) 4 ≡ word_at rest 0
    unfolding word_at
    word_next = ap (λ (l : List ℕ). number_of (take 4 l)) word_after

-- the 4 bytes at an offset are those of the number that they make
pub word-at : (body : List ℕ) (at : ℕ) → Below 256 body → at + 4 ≤ length body → word (word_at body at) ≡ take 4 (drop at body)
unfolding word word_at
word-at body at b h =
    let bs = take 4 (drop at body) in
    let n : length bs ≡ 4 = length-take-le 4 (drop at body) (omega (arith, length-drop at body)) in
    ap (λ (k : ℕ). bytes_of k (number_of bs)) (sym n) ∙ bytes-number bs (below-take 256 4 (drop at body) (below-drop 256 at body b))

pub word-whole : (body : List ℕ) → Below 256 body → 4 ≤ length body → word (word_at body 0) ++ drop 4 body ≡ body
word-whole body b h = ap (λ (l : List ℕ). l ++ drop 4 body) (word-at body 0 b (omega arith)) ∙ take-append-drop 4 body

-- a number in the bytes from an offset of a part
pub word-drop : (bytes : List ℕ) (a b : ℕ) → word_at (drop a bytes) b ≡ word_at bytes (a + b)
unfolding word_at
word-drop bytes a b = rw drop-drop

-- two words are a number of 8 bytes
pub words-number : (s : List ℕ) (at : ℕ) → at + 8 ≤ length s → word_at s at + 4294967296 * word_at s (at + 4) ≡ number_of (take 8 (drop at s))
unfolding word_at
words-number s at h =
    let a : take 4 (take 8 (drop at s)) ≡ take 4 (drop at s) = take-take 4 8 (drop at s) (omega arith) in
    let b : drop 4 (take 8 (drop at s)) ≡ take 4 (drop (at + 4) s) =
    ap (drop 4) (take-add 4 4 (drop at s)) ∙ drop_at (take 4 (drop at s)) (take 4 (drop 4 (drop at s))) 4 (part_length s at 4 (omega arith))
    ∙ ap (take 4) (drop-drop 4 at s) in
    let e = number-split 4 (take 8 (drop at s)) in
    rw (← a, ← b) (omega arith)

-- a number that is there is the same whatever follows
pub word-stays : (body more : List ℕ) (at : ℕ) → at + 4 ≤ length body → word_at (body ++ more) at ≡ word_at body at
unfolding word_at
word-stays body more at h =
    ap (λ (l : List ℕ). number_of (take 4 l)) (drop-append-le at body more (omega arith))
    ∙ ap number_of (take-append-le 4 (drop at body) more (omega (arith, length-drop at body)))
