use Rattle.std.proofs.Common.{◌≡◌, ◌+◌, ◌<◌, ◌++◌, length, vec_items, vec_capacity}
use Rattle.std.specs.Slice.Iter.{iter_rest}
use Rattle.pairing.specs.Pairing.{asked, pairing}
use Rattle.pairing.proofs.Steps.{row_left, rows_left}
use Rattle.pairing.proofs.walk.Assignment.pair_series.Given as goal

-- what is paired and what is left to pair make the whole
abbrev pub invariant-rows : goal.invariant-rows
invariant-rows l =
    (vec_capacity l.pairs ≡ vec_capacity l.fn.pairs)
    × (l.later.count + length (iter_rest l.later.iter.a) ≡ length l.self.requests)
    × (0 < l.waiting → l.request + 1 ≡ l.later.count)
    × (vec_items l.pairs ++ rows_left l.series l.self.trades l.row l.later.count l.request l.waiting (asked l.series (iter_rest l.later.iter.a) (iter_rest l.later.iter.b))
    ≡ vec_items l.fn.pairs ++ pairing l.series l.self.requests l.self.ready l.self.trades)

abbrev pub invariant-loop-written : goal.invariant-loop-written
invariant-loop-written l =
    (vec_capacity l.pairs ≡ vec_capacity l.fn.pairs)
    × (l.later.count + length (iter_rest l.later.iter.a) ≡ length l.self.requests)
    × (0 < l.waiting → l.request + 1 ≡ l.later.count)
    × (vec_items l.pairs ++ row_left l.series l.self.trades l.row l.written l.later.count l.request l.waiting (asked l.series (iter_rest l.later.iter.a) (iter_rest l.later.iter.b))
    ≡ vec_items l.fn.pairs ++ pairing l.series l.self.requests l.self.ready l.self.trades)

abbrev pub decreases-loop-written : goal.decreases-loop-written
decreases-loop-written l = length (iter_rest l.later.iter.a) + l.written
