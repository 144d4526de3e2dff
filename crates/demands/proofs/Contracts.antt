-- The contracts of specs/Promises.antt are those that are proved of the functions: each asks nothing of its caller and ensures that fact. Assumes nothing.
use mathlib.Core.Path.{◌≡◌, refl}
use mathlib.Core.List.{map}
use base.Logic.{SProp}
use contract.Lifetimes.{Lfts}
use contract.Monad.{Fun}
use contract.Notation.{connectives}
use denote.Triple.Clauses.{Ended, AtExit, closing}
use denote.Triple.Entry.{Args, Res}
use denote.Triple.Spec.{Spec}
use types.Logic.{Logic}
use seplogic.Ra.Ura.{Ura}
use prog.Memory.{Memory}
use prog.Routine.{Routine}
use Rattle.meaning.specs.Says.{held}
use Rattle.bits.specs.contracts.rank as rank
use Rattle.bits.specs.contracts.select as select
use Rattle.judge.specs.contracts.judge as judge
use Rattle.judge.specs.contracts.worst_size as worst-size
use Rattle.orders.specs.contracts.write as orders
use Rattle.orders.specs.Orders.{order_says}
use Rattle.reader.specs.contracts.open as open-reader
use Rattle.reader.specs.contracts.step as step
use Rattle.reader.specs.Steps.{standing}
use Rattle.sheet.specs.contracts.board as board
use Rattle.sheet.specs.contracts.check as check
use Rattle.sheet.specs.contracts.lookup as lookup
use Rattle.sheet.specs.contracts.read as read
use Rattle.table.specs.contracts.fetch as fetch
use Rattle.writer.specs.contracts.write as writer
use Rattle.demands.specs.Promises.{Judges, Sizes, Writes, WritesApart, Checks, Reads, Looks, Counts, Fetches, Opens, Steps, Ranks, Selects}

-- a fact of what came in, of the answer and of what came in as it is at the end
abbrev Fact : Ended → Type 1
Fact T = (κs : Lfts T.signature.lifetimes) → Args T.signature κs → Res T.signature κs → AtExit T κs → Type 0

module _ {M : Type 1} {𝓤 : Ura M} (𝓛 : Logic 𝓤) (mem : Memory → SProp 𝓤) (run : Routine → Fun 𝓤) where
  open connectives 𝓤 use {⌜◌⌝, ⊤ₛ}

  -- the contract that asks nothing and ensures a fact
  abbrev ensuring : (T : Ended) → Fact T → Spec 𝓤 T.signature
  ensuring T fact = closing 𝓛 T (λ κs a. record { ghost = Unit {0}; requires = λ g. ⊤ₛ; ensures = λ g r s. ⌜ fact κs a r s ⌝ })

  -- judge(kind, plan)
  pub judging : judge.spec 𝓛 mem run ≡ ensuring judge.ended (λ κs a r s. Judges a.0 a.1.0.now r)
  judging = refl

  -- worst_size(plan, n)
  pub sizing : worst-size.spec 𝓛 mem run ≡ ensuring worst-size.ended (λ κs a r s. Sizes a.0.now a.1.0 r)
  sizing = refl

  -- orders::write(edition, orders, joined, work, out)
  pub writing : orders.spec 𝓛 mem run ≡ ensuring orders.ended (λ κs a r s.
      Writes a.0 (map order_says a.1.0.now) a.1.1.0.now a.1.1.1.0.now a.1.1.1.1.0.now (r, s.1.1.1.1.0.now))
  writing = refl

  -- writer::write(edition, kinds, plans, counts, joined, work, out)
  pub writing-apart : writer.spec 𝓛 mem run ≡ ensuring writer.ended (λ κs a r s.
      WritesApart a.0 a.1.0.now a.1.1.0.now a.1.1.1.0.now a.1.1.1.1.0.now a.1.1.1.1.1.0.now
      a.1.1.1.1.1.1.0.now (r, s.1.1.1.1.1.1.0.now))
  writing-apart = refl

  -- check(sheet, work)
  pub checking : check.spec 𝓛 mem run ≡ ensuring check.ended (λ κs a r s. Checks a.0.now a.1.0.now r)
  checking = refl

  -- read(sheet, column, work, out)
  pub reading : read.spec 𝓛 mem run ≡ ensuring read.ended (λ κs a r s.
      Reads a.0.now a.1.0 a.1.1.0.now a.1.1.1.0.now (r, s.1.1.1.0.now))
  reading = refl

  -- lookup(sheet, column, place)
  pub looking : lookup.spec 𝓛 mem run ≡ ensuring lookup.ended (λ κs a r s. Looks a.0.now a.1.0 a.1.1.0.number r)
  looking = refl

  -- board(sheet, work)
  pub counting : board.spec 𝓛 mem run ≡ ensuring board.ended (λ κs a r s. Counts a.0.now a.1.0.now r)
  counting = refl

  -- fetch(sheet, column)
  pub fetching : fetch.spec 𝓛 mem run ≡ ensuring fetch.ended (λ κs a r s. Fetches a.0.now a.1.0 (held r))
  fetching = refl

  -- open(sheet, column)
  pub opening : open-reader.spec 𝓛 mem run ≡ ensuring open-reader.ended (λ κs a r s. Opens a.0.now a.1.0 (standing r.0, r.1))
  opening = refl

  -- step(r)
  pub stepping : step.spec 𝓛 mem run ≡ ensuring step.ended (λ κs a x s. Steps a.0.now (x, s.0.now))
  stepping = refl

  -- rank(bytes, bit)
  pub ranking : rank.spec 𝓛 mem run ≡ ensuring rank.ended (λ κs a r s. Ranks a.0.now a.1.0.index r)
  ranking = refl

  -- select(bytes, k)
  pub selecting : select.spec 𝓛 mem run ≡ ensuring select.ended (λ κs a r s. Selects a.0.now a.1.0 r)
  selecting = refl
