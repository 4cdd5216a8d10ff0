-- The parts of a close put together. Assumes nothing.
use Rattle.std.proofs.Common.{◌≡◌, ℕ, suc, ◌+◌, ◌-◌, ◌≤◌, List, [], ◌∷◌, ◌++◌, length, sym, refl, ap, ◌∙◌, append_assoc, arith}
use Rattle.std.proofs.lemmas.List.{length-append, length-map}
use Rattle.contract.specs.declared.series.Kind.TheVariants.{Call, Put}
use Rattle.contract.specs.declared.series.Series.{Series}
use Rattle.pairing.specs.declared.rows.Pair.{Pair}
use Rattle.pairing.specs.declared.rows.Request.{Request}
use Rattle.pairing.specs.declared.rows.Trade.{Trade}
use Rattle.pairing.specs.Listing.{Rising}
use Rattle.pairing.specs.Pairing.{listed, pairing, pairings}
use Rattle.pairing.proofs.Apart.{listing_apart}
use Rattle.pairing.proofs.Counts.{few_pairs}
use Rattle.reckon.specs.declared.duty.Duty.{Duty}
use Rattle.reckon.specs.Duties.{request_duty}
use Rattle.reckon.specs.Expiry.{Expiry, asked_duties, listing, ready_lots}
use Rattle.reckon.specs.Reach.{all_reached}

pub length-reached : (size : ℕ) (units purse : List ℕ) (ds : List Duty) (i : ℕ) (es : List Duty) → length (all_reached size units purse ds i es) ≡ length es
length-reached size units purse ds i [] = refl
length-reached size units purse ds i (e ∷ es) = ap suc (length-reached size units purse ds (i + 1) es)

-- what is added to nothing
pub fresh : {X : Type 0} (xs ys zs : List X) → xs ≡ [] → ys ≡ xs ++ zs → ys ≡ zs
fresh xs ys zs none e = e ∙ ap (λ us. us ++ zs) none

pairings-append : (ss us : List Series) (rs : List Request) (ns : List ℕ) (ts : List Trade) → pairings (ss ++ us) rs ns ts ≡ pairings ss rs ns ts ++ pairings us rs ns ts
pairings-append [] us rs ns ts = refl
pairings-append (s ∷ ss) us rs ns ts =
    ap (λ ps. pairing s rs ns ts ++ ps) (pairings-append ss us rs ns ts)
    ∙ sym (append_assoc (pairing s rs ns ts) (pairings ss rs ns ts) (pairings us rs ns ts))

-- what the pairs and the lots of a close are, part by part
module _ (x : Expiry) where
  module _ (ns : List ℕ) where
    abbrev pub calls_made : List Pair
    calls_made = pairings (listed Call x.calls) x.requests ns x.trades

    abbrev pub puts_made : List Pair
    puts_made = pairings (listed Put x.puts) x.requests ns x.trades

    pub all_made : pairings (listing x) x.requests ns x.trades ≡ calls_made ++ puts_made
    all_made = pairings-append (listed Call x.calls) (listed Put x.puts) x.requests ns x.trades

    module _ (hc : Rising x.calls) (hp : Rising x.puts) where
      pub pairs_room : length (pairings (listing x) x.requests ns x.trades) ≤ length x.requests + length x.trades - 1
      pairs_room = few_pairs (listing x) x.requests ns x.trades (listing_apart x.calls x.puts hc hp)

      pub kinds_room : length calls_made + length puts_made ≤ length x.requests + length x.trades
      kinds_room = omega (arith, pairs_room, ap length all_made, length-append calls_made puts_made)

  pub length_asked : length (asked_duties x) ≡ length x.requests
  length_asked = length-map x.requests (request_duty x.price)

  pub length_ready : length (ready_lots x) ≡ length x.requests
  length_ready = length-reached x.size x.units x.purse (asked_duties x) 0 (asked_duties x) ∙ length_asked
