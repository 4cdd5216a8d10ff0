-- The pairs of a close. Assumes nothing.
use Rattle.std.proofs.Common.{ℕ, zero, suc, ◌+◌, ◌<◌, ◌≤◌, List, [], ◌∷◌, map, length, get_or, sym, ◌∙◌, arith}
use Rattle.std.specs.List.{AllByRecursion as All}
use Rattle.std.proofs.ByRecursion.{All-weaker}
use Rattle.std.proofs.lemmas.Bool.Decides.{nat_tests}
use Rattle.pairing.specs.declared.rows.Request.{Request}
use Rattle.pairing.specs.Listing.{Rising}
use Rattle.pairing.specs.Pairing.{no_request}
use Rattle.pairing.proofs.Apart.{listing_apart, same}
use Rattle.pairing.proofs.Inside.{pairings_all}
use Rattle.pairing.proofs.Once.{filled, ready_paired, rows_hold}
use Rattle.reckon.specs.declared.duty.Duty.{Duty}
use Rattle.reckon.specs.Duties.{request_duty}
use Rattle.reckon.specs.Expiry.{Expiry, asked_duties, listing, pairs_made, ready_lots}
use Rattle.reckon.specs.Paired.{InSeries, PairedOnce, request_at, trade_at}
use Rattle.reckon.specs.Reach.{all_reached}
use Rattle.reckon.proofs.Whole.{length_ready, pairs_room}

-- no more lots are ready than were requested
ready_within : (size : ℕ) (units purse : List ℕ) (ds : List Duty) (price i : ℕ) (rs : List Request) (k : ℕ) → get_or (all_reached size units purse ds i (map (request_duty price) rs)) k 0 ≤ (get_or rs k no_request).lots
ready_within size units purse ds price i [] k = omega arith
ready_within size units purse ds price i (r ∷ rs) zero = grind (arith, nat_tests)
ready_within size units purse ds price i (r ∷ rs) (suc k) = ready_within size units purse ds price (i + 1) rs k

pub paired_once : (x : Expiry) → Rising x.calls → Rising x.puts → PairedOnce x
paired_once x hc hp =
    let apart = listing_apart x.calls x.puts hc hp in
    let ready = ready_lots x in
    let same_length = length_ready x in
    record {
      none_empty = filled (listing x) x.requests ready x.trades;
      in_series = pairings_all (InSeries x) x.requests ready x.trades
          (λ s p row request. record {
            request_there = request.0;
            row_there = row.0;
            one_series = same (request_at x p.request).series s request.1 ∙ sym (same (trade_at x p.row).series s row.1);
          })
          (listing x);
      few = pairs_room x ready hc hp;
      rows_hold = rows_hold (listing x) x.requests ready x.trades apart;
      ready_paired = λ covered k listed. ready_paired (listing x) x.requests ready x.trades apart same_length covered (ready_within x.size x.units x.purse (asked_duties x) x.price 0 x.requests) k listed;
    }

-- the row of each pair is there
pub rows_there : (x : Expiry) → Rising x.calls → Rising x.puts → All (λ p. p.row < length x.trades) (pairs_made x)
rows_there x hc hp = All-weaker (InSeries x) (λ p. p.row < length x.trades) (λ p s. s.row_there) (pairs_made x) (paired_once x hc hp).in_series

pub few_pairs_made : (x : Expiry) → Rising x.calls → Rising x.puts → length (pairs_made x) ≤ length x.requests + length x.trades
few_pairs_made x hc hp = omega (arith, (paired_once x hc hp).few)
