-- Ready and good lots are what all duties together reach. Assumes nothing.
use Rattle.std.proofs.Common.{◌≡◌, ℕ, zero, suc, ◌+◌, ◌-◌, ◌*◌, ◌/◌, ◌<◌, ◌≤◌, min, true, false, ◌&&◌, eqb, ltb, List, [], ◌∷◌, ◌++◌, map, length, get_or, sym, refl, ap, ◌∙◌, subst, ⊎_elim, zero-add, arith}
use Rattle.std.specs.List.{AllByRecursion as All}
use Rattle.std.proofs.ByRecursion.{All-map}
use Rattle.std.proofs.lemmas.Bool.{and_from, and_right, cases_lt, cond-false, eq-eqb, le-ltb, ltb-true}
use Rattle.contract.specs.declared.series.Kind.{Kind}
use Rattle.contract.specs.declared.series.Kind.TheVariants.{Call, Put}
use Rattle.contract.specs.declared.series.Series.{Series}
use Rattle.pairing.specs.declared.rows.Pair.{Pair}
use Rattle.pairing.specs.declared.rows.Request.{Request}
use Rattle.pairing.specs.declared.rows.Trade.{Trade}
use Rattle.pairing.specs.Pairing.{no_request, no_trade}
use Rattle.pairing.proofs.Apart.{same}
use Rattle.pairing.proofs.Inside.{some_lots, RequestIn, RowIn, pairings_all}
use Rattle.reckon.specs.declared.duty.Asset.{Asset}
use Rattle.reckon.specs.declared.duty.Asset.TheVariants.{Units, Money}
use Rattle.reckon.specs.declared.duty.Duty.{Duty}
use Rattle.reckon.specs.Choices.{BestChoice, Choice, taken}
use Rattle.reckon.specs.Duties.{Priced, cost, holder_asset, in_money, request_duty, writer_asset}
use Rattle.reckon.specs.Expiry.{Expiry, asked_duties, duties, listing, pair_duty, pairs_made, ready_lots, written_duties}
use Rattle.reckon.specs.Reach.{ahead, all_reached, amount, before, claims, lots_for, reached, same_asset}
use Rattle.reckon.specs.Turns.{InTurn, Turns, spent}
use Rattle.reckon.proofs.Account.{Within, highest, within_highest}
use Rattle.reckon.proofs.Best.{best_reached, enough, most_reached, turn}

-- in the money a holder's strike lies on one side of the price, and a writer's on the other
abbrev Holder : ℕ → Asset → ℕ → Type 0
Holder price Units strike = price < strike
Holder price Money strike = strike < price

abbrev Writer : ℕ → Asset → ℕ → Type 0
Writer price Units strike = strike < price
Writer price Money strike = price < strike

holder_side : (kind : Kind) (strike price : ℕ) → in_money kind strike price ≡ true → Holder price (holder_asset kind) strike
holder_side Call strike price h = ltb-true strike price h
holder_side Put strike price h = ltb-true price strike h

writer_side : (kind : Kind) (strike price : ℕ) → in_money kind strike price ≡ true → Writer price (writer_asset kind) strike
writer_side Call strike price h = ltb-true strike price h
writer_side Put strike price h = ltb-true price strike h

asked_sides : (price : ℕ) (rs : List Request) → All (λ e. 0 < e.lots → Holder price e.asset e.strike) (map (request_duty price) rs)
asked_sides price [] = tt
asked_sides price (r ∷ rs) = (λ some. holder_side r.series.kind r.series.strike price (some_lots _ r.lots some).0, asked_sides price rs)

-- a request with ready lots entered
ready_entered : (size : ℕ) (units purse : List ℕ) (ds : List Duty) (price i : ℕ) (rs : List Request) (k : ℕ) → 0 < get_or (all_reached size units purse ds i (map (request_duty price) rs)) k 0 → in_money (get_or rs k no_request).series.kind (get_or rs k no_request).series.strike price ≡ true
ready_entered size units purse ds price i [] k h = absurd (omega arith)
ready_entered size units purse ds price i (r ∷ rs) zero h = (some_lots _ r.lots (omega arith)).0
ready_entered size units purse ds price i (r ∷ rs) (suc k) h = ready_entered size units purse ds price (i + 1) rs k h

module _ (x : Expiry) where
  -- so did the row that it is paired with
  row_entered : (s : Series) (p : Pair) → RowIn s x.trades p.row → RequestIn s x.requests (ready_lots x) p.request → Writer x.price (pair_duty x.trades p).asset (pair_duty x.trades p).strike
  row_entered s p row request =
      let t : Trade = get_or x.trades p.row no_trade in
      let r : Request = get_or x.requests p.request no_request in
      let one : r.series ≡ t.series = same r.series s request.1 ∙ sym (same t.series s row.1) in
      let entered = ready_entered x.size x.units x.purse (asked_duties x) x.price 0 x.requests p.request request.2 in
      writer_side t.series.kind t.series.strike x.price (ap (λ v. in_money v.kind v.strike x.price) (sym one) ∙ entered)

  written_sides : All (λ d. Writer x.price d.asset d.strike) (written_duties x)
  written_sides = All-map (λ d. Writer x.price d.asset d.strike) (pair_duty x.trades) (pairs_made x) (pairings_all (λ p. Writer x.price (pair_duty x.trades p).asset (pair_duty x.trades p).strike) x.requests (ready_lots x) x.trades row_entered (listing x))

not_before : (price : ℕ) (t u : Asset) (k l : ℕ) → Writer price t k → Holder price u l → (same_asset t u && before u false k l) ≡ false
not_before price Units Units k l w h = le-ltb l k (omega arith)
not_before price Units Money k l w h = refl
not_before price Money Units k l w h = refl
not_before price Money Money k l w h = le-ltb k l (omega arith)

module _ (size price : ℕ) where
  -- no writer's duty is ahead of a request's
  claims_none : (e : Duty) (i j : ℕ) (ws : List Duty) → i < j → Holder price e.asset e.strike → All (λ d. Writer price d.asset d.strike) ws → claims size e i j ws ≡ 0
  claims_none e i j [] lt h w = refl
  claims_none e i j (d ∷ ws) lt h w =
      let younger : ltb j i ≡ false = le-ltb j i (omega arith) in
      let no_claim : ahead (ltb j i) d e ≡ false = ap (λ b. ahead b d e) younger ∙ and_right (eqb d.account e.account) _ (not_before price d.asset e.asset d.strike e.strike w.0 h) in
      omega (arith, cond-false (ahead (ltb j i) d e) (d.lots * cost size d) 0 no_claim, claims_none e i (j + 1) ws (omega arith) h w.1)

  claims-append : (e : Duty) (i j : ℕ) (ds ws : List Duty) → claims size e i j (ds ++ ws) ≡ claims size e i j ds + claims size e i (j + length ds) ws
  claims-append e i j [] ws = let z : j + 0 ≡ j = omega arith in rw z (sym (zero-add _))
  claims-append e i j (d ∷ ds) ws =
      let step : j + 1 + length ds ≡ j + suc (length ds) = omega arith in
      omega (arith, claims-append e i (j + 1) ds ws, ap (λ k. claims size e i k ws) step)

  module _ (units purse : List ℕ) (asked ws : List Duty) (writers : All (λ d. Writer price d.asset d.strike) ws) where
    reached_asked : (i : ℕ) (e : Duty) → i < length asked → (0 < e.lots → Holder price e.asset e.strike) → reached size units purse (asked ++ ws) i e ≡ reached size units purse asked i e
    reached_asked i e lt side =
        ⊎_elim
        (λ some.
        let none = claims_none e i (0 + length asked) ws (omega arith) (side some) writers in
        let all : claims size e i 0 (asked ++ ws) ≡ claims size e i 0 asked = omega (arith, claims-append e i 0 asked ws) in
        ap (λ c. min e.lots ((amount units purse e - c) / cost size e)) all)
        (λ none. omega arith)
        (cases_lt 0 e.lots)

    all_asked : (i : ℕ) (es : List Duty) → i + length es ≤ length asked → All (λ e. 0 < e.lots → Holder price e.asset e.strike) es → all_reached size units purse (asked ++ ws) i es ≡ all_reached size units purse asked i es
    all_asked i [] le sides = refl
    all_asked i (e ∷ es) le sides =
        ap (λ n. n ∷ all_reached size units purse (asked ++ ws) (i + 1) es) (reached_asked i e (omega arith) sides.0)
        ∙ ap (λ ns. reached size units purse asked i e ∷ ns) (all_asked (i + 1) es (omega arith) sides.1)

all_append_reached : (size : ℕ) (units purse : List ℕ) (whole : List Duty) (i : ℕ) (ds ws : List Duty) → all_reached size units purse whole i (ds ++ ws) ≡ all_reached size units purse whole i ds ++ all_reached size units purse whole (i + length ds) ws
all_append_reached size units purse whole i [] ws = let z : i + 0 ≡ i = omega arith in rw z
all_append_reached size units purse whole i (d ∷ ds) ws =
    let step : i + 1 + length ds ≡ i + suc (length ds) = omega arith in
    ap (λ ns. reached size units purse whole i d ∷ ns) (all_append_reached size units purse whole (i + 1) ds ws ∙ ap (λ k. all_reached size units purse whole (i + 1) ds ++ all_reached size units purse whole k ws) step)

pub taken_is : (x : Expiry) → taken x ≡ all_reached x.size x.units x.purse (duties x) 0 (duties x)
taken_is x =
    let asked = asked_duties x in
    let written = written_duties x in
    ap (λ ns. ns ++ all_reached x.size x.units x.purse (duties x) (length asked) written) (sym (all_asked x.size x.price x.units x.purse asked written (written_sides x) 0 asked (omega arith) (asked_sides x.price x.requests)))
    ∙ ap (λ k. all_reached x.size x.units x.purse (duties x) 0 asked ++ all_reached x.size x.units x.purse (duties x) k written) (sym (zero-add (length asked)))
    ∙ sym (all_append_reached x.size x.units x.purse (duties x) 0 asked written)

reached_choice : (size : ℕ) (units purse : List ℕ) (whole : List Duty) (i : ℕ) (ds : List Duty) → Choice ds (all_reached size units purse whole i ds)
reached_choice size units purse whole i [] = tt
reached_choice size units purse whole i (d ∷ ds) = (omega arith, reached_choice size units purse whole (i + 1) ds)

pub best_choice : (x : Expiry) → Priced x.size (duties x) → BestChoice x
best_choice x priced =
    let ds = duties x in
    let is = taken_is x in
    record {
      is_choice = rw is (reached_choice x.size x.units x.purse ds 0 ds);
      units_suffice = λ a. rw is (enough x.size x.units x.purse ds priced a Units []);
      money_suffices = λ a. rw is (enough x.size x.units x.purse ds priced a Money []);
      best_units = λ a ns choice h. rw is (best_reached x.size x.units x.purse ds priced a ns choice h);
      most_lots = λ a ns choice h. rw is (most_reached x.size x.units x.purse ds priced a ns choice h);
    }

same_self : (s : Asset) → same_asset s s ≡ true
same_self Units = refl
same_self Money = refl

turns : (x : Expiry) → Priced x.size (duties x) → (i : ℕ) (ds : List Duty) → Within (highest (duties x)) ds → Priced x.size ds → i + length ds ≤ length (duties x) → Turns x i ds (all_reached x.size x.units x.purse (duties x) i ds)
turns x priced i [] w some le = tt
turns x priced i (d ∷ ds) w some le =
    let mine = and_from (eqb d.account d.account) (same_asset d.asset d.asset) (eq-eqb d.account d.account refl) (same_self d.asset) in (
      turn x.size x.units x.purse (duties x) priced d.account d.asset i d (omega arith) mine w.0 some.0
          ∙ ap (λ ns. lots_for x.size (amount x.units x.purse d - spent x.size d i 0 (duties x) ns) d) (sym (taken_is x)),
      turns x priced (i + 1) ds w.1 some.1 (omega arith),
    )

pub in_turn : (x : Expiry) → Priced x.size (duties x) → InTurn x
in_turn x priced =
    let P : List ℕ → Type 0 = λ ns. Turns x 0 (duties x) ns in
    subst P (sym (taken_is x)) (turns x priced 0 (duties x) (within_highest (duties x)) priced (omega arith))
