use Rattle.std.proofs.Common.{ℕ, ◌-◌, arith, ap}
use Rattle.hm_plain.specs.Stocks.{Stock}
use Rattle.hm_plain.specs.Indices.{indexed_name}
use Rattle.hm_plain.proofs.OpeningFacts.{version_count-opening, fresh_caller}
use Rattle.hm_plain.proofs.heap.PlainHeap.make.Goals as goal

pub fresh-requires-clause-used : goal.fresh-requires-clause-used
fresh-requires-clause-used g c =
    let none = ap (λ (s : Stock). s.used) c.in_ok-objects.ensures in
    rw c.in_ok-diary.ensures (omega (arith, version_count-opening c.args.start))

pub returns-clause-fresh : goal.returns-clause-fresh
returns-clause-fresh g c =
    rw (c.fresh.ensures, c.in_ok-diary.ensures) (fresh_caller c.args.usage c.args.start _ c.open.new.self (c.objects-common.result - 1) (ap (λ (k : ℕ). indexed_name k) (omega arith)))
