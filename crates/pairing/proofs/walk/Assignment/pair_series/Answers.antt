use Rattle.std.proofs.Common.{rules, ⊎_elim, inl, inr, ◌-◌, ◌<◌, ◌++◌, vec_items, sym, ap, ◌∙◌, append-nil, append_assoc, arith}
use Rattle.std.proofs.lemmas.List.{length-append}
use Rattle.std.specs.Slice.Iter.{iter_rest}
use Rattle.pairing.specs.Pairing.{asked, pairing}
use Rattle.pairing.proofs.Steps.{enter_row, leave_row, no_request, pair_lots, pair_room, row_left}
use Rattle.pairing.proofs.walk.Assignment.pair_series.Goals as goal

pub loop-written-init : goal.loop-written-init
loop-written-init c = search (rules, enter_row)

pub push_reserved-requires : goal.push_reserved-requires
push_reserved-requires c =
    let s = c.args.series.now in
    let x = c.args.self.now in
    let some : 0 < c.loop-written.waiting = omega arith in
    let room = pair_room s x.trades c.rows.row c.loop-written.written c.loop-written.later.count c.loop-written.request c.loop-written.waiting c.pair_lots-lots.result _ (vec_items c.loop-written.pairs) _ c.loop-written-test.true some (c.loop-written.invariant.2 some) c.pair_lots-lots.ensures.lots c.loop-written.invariant.3 in
    omega (arith, room, length-append (vec_items c.args.pairs.now) (pairing s x.requests x.ready x.trades))

pub loop-written-preserved : goal.loop-written-preserved
loop-written-preserved c =
    let s = c.args.series.now in
    let x = c.args.self.now in
    let some : 0 < c.loop-written.waiting = omega arith in
    let next = c.loop-written.invariant.2 some in
    let paired = pair_lots s x.trades c.rows.row c.loop-written.written c.loop-written.later.count c.loop-written.request c.loop-written.waiting c.pair_lots-lots.result _ c.loop-written-test.true some next c.pair_lots-lots.ensures.lots in
    let left = row_left s x.trades c.rows.row (c.loop-written.written - c.pair_lots-lots.result) c.loop-written.later.count c.loop-written.request (c.loop-written.waiting - c.pair_lots-lots.result) (asked s (iter_rest c.loop-written.later.iter.a) (iter_rest c.loop-written.later.iter.b)) in
    rw (c.pair_lots-lots.ensures.written, c.pair_lots-lots.ensures.waiting) (
      c.push_reserved.ensures.capacity ∙ c.loop-written.invariant.0,
      c.loop-written.invariant.1,
      λ some. next,
      ap (λ us. us ++ left) c.push_reserved.ensures.items
          ∙ append_assoc (vec_items c.loop-written.pairs) _ left
          ∙ ap (λ us. vec_items c.loop-written.pairs ++ us) (sym paired)
          ∙ c.loop-written.invariant.3,
    )

pub rows-preserved : goal.rows-preserved
rows-preserved c = search (rules, leave_row)

pub returns-in_default-clause-items : goal.returns-in_default-clause-items
returns-in_default-clause-items c =
    let x = c.args.self.now in
    let end = ⊎_elim (λ u. inl u.1.0) (λ u. inr u.1.0) c.in_default.ensures.steps.0 in
    let none = no_request c.args.series.now x.trades c.rows.row c.loop-written.written c.loop-written.later.count c.loop-written.request c.loop-written.waiting (iter_rest c.loop-written.later.iter.a) (iter_rest c.loop-written.later.iter.b) c.if-waiting-eq0.true end in
    sym (ap (λ us. vec_items c.loop-written.pairs ++ us) none ∙ append-nil (vec_items c.loop-written.pairs)) ∙ c.loop-written.invariant.3
