use Rattle.std.proofs.Common.{◌≡◌, ◌+◌, ◌++◌, length, drop}
use Rattle.std.specs.Slice.Iter.{iter_rest}
use Rattle.reckon.specs.Duties.{AllInRange, Priced}
use Rattle.reckon.specs.Reach.{all_reached}
use Rattle.reckon.proofs.reach.list_reached.Given as goal

abbrev pub invariant-loop-number : goal.invariant-loop-number
invariant-loop-number g l =
    (goal.iterator-loop-number g).can_next l.number-iterator
    × (goal.iterator-loop-number g).is_finite l.number-iterator
    × (AllInRange l.expiry.size (iter_rest l.number-iterator.b) → AllInRange l.expiry.size (drop l.first l.duties))
    × (Priced l.expiry.size (iter_rest l.number-iterator.b) → Priced l.expiry.size (drop l.first l.duties))
    × (length l.lots + l.first + length (iter_rest l.number-iterator.b) ≡ length l.duties)
    × (l.number-iterator.a.start + length (iter_rest l.number-iterator.b) ≡ l.number-iterator.a.end)
    × (l.lots ++ all_reached l.expiry.size l.expiry.units l.expiry.purse l.duties l.number-iterator.a.start (iter_rest l.number-iterator.b)
    ≡ all_reached l.expiry.size l.expiry.units l.expiry.purse l.duties l.first (drop l.first l.duties))
