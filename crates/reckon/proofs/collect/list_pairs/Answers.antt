use Rattle.std.proofs.Common.{◌++◌, length, sym, ap, ◌∙◌, arith}
use Rattle.contract.specs.declared.series.Kind.TheVariants.{Put}
use Rattle.pairing.specs.Pairing.{listed, pairings}
use Rattle.reckon.specs.Expiry.{Expiry, listing}
use Rattle.reckon.proofs.Whole.{all_made, calls_made, fresh, kinds_room, puts_made}
use Rattle.reckon.proofs.collect.list_pairs.Goals as goal

pub pair_kind-requires : goal.pair_kind-requires
pair_kind-requires g c =
    let ns = c.args.ready.now in
    omega (arith, ap length (c.pairs.view_is ∙ c.clear.ensures), kinds_room c.args.expiry.now ns c.requires.calls_rise c.requires.puts_rise, ap (λ (y : Expiry). length (calls_made y ns)) c.expiry.view_is, c.pairs.invariant, c.requires.room)

pub pair_kind-requires-2 : goal.pair_kind-requires-2
pair_kind-requires-2 g c =
    let ns = c.args.ready.now in
    let calls = fresh _ _ _ (c.pairs.view_is ∙ c.clear.ensures) c.pair_kind.ensures.items in
    omega (arith, ap length calls, kinds_room c.args.expiry.now ns c.requires.calls_rise c.requires.puts_rise, ap (λ (y : Expiry). length (calls_made y ns)) c.expiry.view_is, ap (λ (y : Expiry). length (puts_made y ns)) c.expiry.view_is, c.pair_kind.ensures.capacity, c.pairs.invariant, c.requires.room)

pub returns : goal.returns
returns g c =
    let ns = c.args.ready.now in
    let calls = fresh _ _ _ (c.pairs.view_is ∙ c.clear.ensures) c.pair_kind.ensures.items in
    c.pair_kind-2.ensures.items
    ∙ ap (λ us. us ++ pairings (listed Put c.expiry.inside.puts.now) c.expiry.inside.requests.now ns c.expiry.inside.trades.now) calls
    ∙ ap (λ (y : Expiry). calls_made y ns ++ puts_made y ns) c.expiry.view_is
    ∙ sym (all_made c.args.expiry.now ns)
    ∙ ap (λ ns. pairings (listing c.args.expiry.now) c.args.expiry.now.requests ns c.args.expiry.now.trades) c.requires.ready
