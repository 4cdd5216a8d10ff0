use Rattle.std.proofs.Common.{◌<◌, List, ◌++◌, map, length, lit≤, sym, ap, subst, ◌∙◌, arith}
use Rattle.std.specs.List.{AllByRecursion as All}
use Rattle.std.proofs.ByRecursion.{All-append, All-weaker}
use Rattle.pairing.specs.declared.rows.Pair.{Pair}
use Rattle.reckon.specs.Duties.{InRange, IsPriced}
use Rattle.reckon.specs.Expiry.{asked_duties, pair_duty, written_duties}
use Rattle.reckon.proofs.Pairs.{few_pairs_made, paired_once, rows_there}
use Rattle.reckon.proofs.Taken.{best_choice, in_turn}
use Rattle.reckon.proofs.Whole.{length_asked}
use Rattle.reckon.proofs.close.Close.reckon.Goals as goal

pub add_written-requires : goal.add_written-requires
add_written-requires c =
    let x = c.args.expiry.now in
    let made = c.as_slice-3.ensures ∙ c.list_pairs.ensures in
    let there = subst (λ (ps : List Pair). All (λ p. p.row < length x.trades) ps) (sym made) (rows_there x c.requires.calls_rise c.requires.puts_rise) in
    (lit≤ tt, (there, omega (arith, ap length c.list_asked.ensures, length_asked x, ap length made, few_pairs_made x c.requires.calls_rise c.requires.puts_rise, c.requires.few_requests, c.requires.few_trades)))

pub list_good-requires : goal.list_good-requires
list_good-requires c =
    let x = c.args.expiry.now in
    let made = c.as_slice-3.ensures ∙ c.list_pairs.ensures in
    let owed = c.as_slice-4.ensures ∙ c.add_written.ensures ∙ (λ j. c.list_asked.ensures j ++ map (pair_duty x.trades) (made j)) in
    (lit≤ tt, (owed, omega (arith, few_pairs_made x c.requires.calls_rise c.requires.puts_rise, c.requires.few_requests, c.requires.few_trades)))

pub returns : goal.returns
returns c =
    let x = c.args.expiry.now in
    let ranges = All-append (InRange x.size) (asked_duties x) (written_duties x) c.list_ready.ensures.ranges c.list_good.ensures.ranges in
    let priced = All-weaker (InRange x.size) (IsPriced x.size) (λ d in_range. (in_range.0.0, in_range.1.0)) (asked_duties x ++ written_duties x) ranges in
    record {
      reckoned = record {
        ready = c.list_ready.ensures.lots;
        pairs = c.list_pairs.ensures;
        good = c.list_good.ensures.lots;
        turns = in_turn x priced;
        paired = paired_once x c.requires.calls_rise c.requires.puts_rise;
        best = best_choice x priced;
      };
      ranges = ranges;
    }
