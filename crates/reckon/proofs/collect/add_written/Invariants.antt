use Rattle.std.proofs.Common.{◌≡◌, ◌+◌, ◌++◌, map, length, drop}
use Rattle.reckon.specs.Expiry.{pair_duty}
use Rattle.reckon.proofs.collect.add_written.Given as goal

abbrev pub invariant-loop-pair : goal.invariant-loop-pair
invariant-loop-pair g l =
    (length l.owed ≡ length l.fn.owed + l.pair-index)
    × (l.owed ++ map (pair_duty l.expiry.trades) (drop l.pair-index l.pairs) ≡ l.fn.owed ++ map (pair_duty l.expiry.trades) l.pairs)
