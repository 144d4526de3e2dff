-- Each byte that is put is one of the number's fewest. Assumes nothing.
use native.Mathlib.Omega.{arith}
use mathlib.Core.Path.{ap, ◌∙◌}
use mathlib.Core.List.{List}
use Prim.Native.Nat.{ℕ, ◌+◌, ◌/◌, ◌%◌}
use lib.ListN.{set}
use Rattle.words.proofs.Straight.{fewest-1, fewest-2, fewest-3, fewest-4}
use Rattle.words.proofs.put_near.Goals as goal

pub returns-then-x-lt256 : goal.returns-then-x-lt256
returns-then-x-lt256 c =
    let a = c.args in
    let f = fewest-1 a.out.now a.at.byte a.x (omega arith) in
    (f.0, c.put.ensures ∙ f.1)

pub returns-then-x-lt65536 : goal.returns-then-x-lt65536
returns-then-x-lt65536 c =
    let a = c.args in
    let f = fewest-2 a.out.now a.at.byte a.x (omega arith) (omega arith) in
    let laid2 = c.put-2.ensures ∙ ap (λ (l : List ℕ). set l (a.at.byte + 1) (a.x / 256 % 256)) c.put.ensures in
    (f.0, laid2 ∙ f.1)

pub returns-then-x-lt16777216 : goal.returns-then-x-lt16777216
returns-then-x-lt16777216 c =
    let a = c.args in
    let f = fewest-3 a.out.now a.at.byte a.x (omega arith) (omega arith) in
    let laid2 = c.put-2.ensures ∙ ap (λ (l : List ℕ). set l (a.at.byte + 1) (a.x / 256 % 256)) c.put.ensures in
    let laid3 = c.put-3.ensures ∙ ap (λ (l : List ℕ). set l (a.at.byte + 2) (a.x / 65536 % 256)) laid2 in
    (f.0, laid3 ∙ f.1)

pub returns : goal.returns
returns c =
    let a = c.args in
    let f = fewest-4 a.out.now a.at.byte a.x (omega arith) in
    let laid2 = c.put-2.ensures ∙ ap (λ (l : List ℕ). set l (a.at.byte + 1) (a.x / 256 % 256)) c.put.ensures in
    let laid3 = c.put-3.ensures ∙ ap (λ (l : List ℕ). set l (a.at.byte + 2) (a.x / 65536 % 256)) laid2 in
    let laid4 = c.put-4.ensures ∙ ap (λ (l : List ℕ). set l (a.at.byte + 3) (a.x / 16777216 % 256)) laid3 in
    (f.0, laid4 ∙ f.1)
