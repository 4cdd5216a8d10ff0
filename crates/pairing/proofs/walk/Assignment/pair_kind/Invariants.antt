use Rattle.std.proofs.Common.{◌≡◌, ◌++◌, drop, vec_items, vec_capacity}
use Rattle.pairing.specs.Pairing.{listed, pairings}
use Rattle.pairing.proofs.walk.Assignment.pair_kind.Given as goal

-- the pairs so far and those of the strikes that are left make the whole
abbrev pub invariant-loop-strike : goal.invariant-loop-strike
invariant-loop-strike l =
    (vec_capacity l.pairs ≡ vec_capacity l.fn.pairs)
    × (vec_items l.pairs ++ pairings (listed l.kind (drop l.strike-index l.strikes)) l.self.requests l.self.ready l.self.trades
    ≡ vec_items l.fn.pairs ++ pairings (listed l.kind l.strikes) l.self.requests l.self.ready l.self.trades)
