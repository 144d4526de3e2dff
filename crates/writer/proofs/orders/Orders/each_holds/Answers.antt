-- `each_holds` asks the kinds and the counts. Assumes nothing.
use Prim.Native.Nat.{ℕ}
use mathlib.Core.Path.{◌≡◌, sym, ◌∙◌}
use lib.Dec.{leb}
use borrow.Author.Tests.{tests}
use Rattle.std.proofs.Common.{rules}
use Rattle.std.proofs.lemmas.Iterator.{YieldsList-from_slice}
use Rattle.std.proofs.lemmas.Iterator.Search.{all_from_yields_List}
use Rattle.std.specs.List.{list_all}
use Rattle.meaning.specs.Limits.{rising, most_numbers}
use Rattle.writer.proofs.Holds.{each-apart}
use Rattle.writer.proofs.orders.Orders.each_holds.Goals as goal

pub returns-then-all : goal.returns-then-all
returns-then-all c =
    let o = c.args.self.now in
    let kinds : c.all.result ≡ list_all (λ (k : ℕ). leb k rising) o.kinds.now =
    all_from_yields_List (λ (k : ℕ). leb k rising) _ _ c.all.result c.all.ensures.ran
    (YieldsList-from_slice o.kinds.now cc) (λ x b q k. search (rules, tests)) in
    let counts : c.all-then-all.result ≡ list_all (λ (n : ℕ). leb n most_numbers) o.counts.now =
    all_from_yields_List (λ (n : ℕ). leb n most_numbers) _ _ c.all-then-all.result c.all-then-all.ensures.ran
    (YieldsList-from_slice o.counts.now cc) (λ x b q k. search (rules, tests)) in
    counts ∙ rw (sym kinds ∙ c.if-all.true) at (each-apart o.kinds.now o.plans.now o.counts.now c.requires)

pub returns-else-all : goal.returns-else-all
returns-else-all c =
    let o = c.args.self.now in
    let kinds : c.all.result ≡ list_all (λ (k : ℕ). leb k rising) o.kinds.now =
    all_from_yields_List (λ (k : ℕ). leb k rising) _ _ c.all.result c.all.ensures.ran
    (YieldsList-from_slice o.kinds.now cc) (λ x b q k. search (rules, tests)) in
    c.if-all.false ∙ rw (sym kinds ∙ c.if-all.false) at (each-apart o.kinds.now o.plans.now o.counts.now c.requires)
