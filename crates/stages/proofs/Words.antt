-- A run stage's two headers and its two bodies, the first as long as the second header says. Assumes nothing.
use Prim.Native.Nat.{ℕ, ◌+◌, ◌≤◌, ◌<◌}
use mathlib.Core.Path.{◌≡◌, refl, sym, ap, ap₂, ◌∙◌}
use mathlib.Core.List.{List, ◌++◌}
use native.Mathlib.Omega.{arith}
use lib.ListN.{length, take, drop, length-append, take-append-drop}
use lib.Seq.{take_at, drop_at, drop-drop}
use Rattle.meaning.specs.Bytes.{word, word_at}
use Rattle.meaning.specs.Limits.{number_limit}
use Rattle.meaning.specs.Places.{Below}
use Rattle.words.proofs.Words.{word-long, word_first, word_after, word_next, word-at, word-whole}

pub record Split (k : ℕ) (first second body : List ℕ) : Type 0 where
  pub count : word_at body 0 ≡ k
  pub size : word_at body 4 ≡ length first
  pub fits : 8 + length first ≤ length body
  pub front : take (word_at body 4) (drop 8 body) ≡ first
  pub back : drop (8 + word_at body 4) body ≡ second

pub words-split : (k : ℕ) (first second : List ℕ) → k < number_limit → length first < number_limit
    → Split k first second (word k ++ (word (length first) ++ (first ++ second)))
words-split k first second h l =
    let len = length first in
    let rest = word len ++ (first ++ second) in
    let body = word k ++ rest in
    let size : word_at body 4 ≡ len = word_next k rest ∙ word_first len (first ++ second) l in
    let behind : drop 8 body ≡ first ++ second = sym (drop-drop 4 4 body) ∙ ap (drop 4) (word_after k rest) ∙ word_after len (first ++ second) in
    record {
      count = word_first k rest h;
      size = size;
      fits = omega (arith, word-long k rest, word-long len (first ++ second), length-append first second);
      front = ap₂ (λ (i : ℕ) (m : List ℕ). take i m) size behind ∙ take_at first second len refl;
      back = ap (λ (i : ℕ). drop (8 + i) body) size ∙ sym (drop-drop len 8 body) ∙ ap (drop len) behind ∙ drop_at first second len refl;
    }

pub words-whole : (body : List ℕ) (len : ℕ) → Below 256 body → 8 ≤ length body → word_at body 4 ≡ len
    → word (word_at body 0) ++ (word len ++ (take len (drop 8 body) ++ drop (8 + len) body)) ≡ body
words-whole body len b h e =
    ap (λ (l : List ℕ). word (word_at body 0) ++ (word len ++ (take len (drop 8 body) ++ l))) (sym (drop-drop len 8 body))
    ∙ ap (λ (l : List ℕ). word (word_at body 0) ++ (word len ++ l)) (take-append-drop len (drop 8 body))
    ∙ ap₂ (λ (l m : List ℕ). word (word_at body 0) ++ (l ++ m)) (ap word (sym e) ∙ word-at body 4 b (omega arith)) (sym (drop-drop 4 4 body))
    ∙ ap (λ (l : List ℕ). word (word_at body 0) ++ l) (take-append-drop 4 (drop 4 body))
    ∙ word-whole body b (omega arith)
