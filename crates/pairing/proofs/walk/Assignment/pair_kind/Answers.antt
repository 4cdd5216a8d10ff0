use Rattle.std.proofs.Common.{◌+◌, length, drop, vec_items, ap, arith}
use Rattle.std.proofs.lemmas.List.{length-append}
use Rattle.pairing.specs.Pairing.{listed, pairing, pairings}
use Rattle.pairing.proofs.Steps.{next_strike}
use Rattle.pairing.proofs.walk.Assignment.pair_kind.Goals as goal

pub pair_series-requires : goal.pair_series-requires
pair_series-requires c =
    let x = c.args.self.now in
    let kind = c.args.kind in
    let ks = c.args.strikes.now in
    let i = c.loop-strike.strike-index in
    let next = next_strike x.requests x.ready x.trades kind ks i c.strike-item.result c.loop-strike-test.true c.strike-item.is in
    let rest = pairings (listed kind (drop (i + 1) ks)) x.requests x.ready x.trades in
    omega (arith, ap length c.loop-strike.invariant.1, length-append (vec_items c.args.pairs.now) (pairings (listed kind ks) x.requests x.ready x.trades), length-append (vec_items c.loop-strike.pairs) (pairings (listed kind (drop i ks)) x.requests x.ready x.trades), ap length next, length-append (pairing (record { kind = kind; strike = c.strike-item.result }) x.requests x.ready x.trades) rest)
