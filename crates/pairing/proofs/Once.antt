-- Over all series: every ready lot is paired once, and no written lot twice. Assumes nothing.
use Rattle.std.proofs.Common.{◌≡◌, ℕ, zero, suc, ◌+◌, ◌<◌, ◌≤◌, Bool, true, false, cond, List, [], ◌∷◌, ◌++◌, length, get_or, sym, refl, ap, ◌∙◌, ⊎_elim, arith}
use Rattle.std.specs.List.{AllByRecursion as All}
use Rattle.std.proofs.ByRecursion.{All-append}
use Rattle.std.proofs.lemmas.Bool.{both_ways, cases_Bool, cond-false, cond-true, false≢true, or_cases}
use Rattle.contract.specs.declared.series.Series.{Series}
use Rattle.contract.specs.Series.{same_series}
use Rattle.pairing.specs.declared.rows.Pair.{Pair}
use Rattle.pairing.specs.declared.rows.Request.{Request}
use Rattle.pairing.specs.declared.rows.Trade.{Trade}
use Rattle.pairing.specs.Pairing.{asked, asked_lots, no_request, no_trade, pairing, pairings, written, written_lots}
use Rattle.pairing.specs.Sums.{Covered, is_listed, of_request, of_row}
use Rattle.pairing.proofs.Apart.{Apart, same, spread, spread_none, spread_once}
use Rattle.pairing.proofs.Holders.{enough}
use Rattle.pairing.proofs.Matched.{all_paired, matched_filled, row_holds}

pub filled : (ss : List Series) (rs : List Request) (ns : List ℕ) (ts : List Trade) → All (λ p. 0 < p.lots) (pairings ss rs ns ts)
filled [] rs ns ts = tt
filled (s ∷ ss) rs ns ts = All-append (λ p. 0 < p.lots) (pairing s rs ns ts) (pairings ss rs ns ts) (matched_filled 0 (written s ts) 0 (asked s rs ns)) (filled ss rs ns ts)

of_row-append : (k : ℕ) (ps qs : List Pair) → of_row k (ps ++ qs) ≡ of_row k ps + of_row k qs
of_row-append k [] qs = omega arith
of_row-append k (p ∷ ps) qs = omega (arith, of_row-append k ps qs)

of_request-append : (k : ℕ) (ps qs : List Pair) → of_request k (ps ++ qs) ≡ of_request k ps + of_request k qs
of_request-append k [] qs = omega arith
of_request-append k (p ∷ ps) qs = omega (arith, of_request-append k ps qs)

pub cond_same : (b : Bool) (m : ℕ) → cond b m m ≡ m
cond_same true m = refl
cond_same false m = refl

written_at : (s : Series) (ts : List Trade) (k : ℕ) → get_or (written s ts) k 0 ≡ written_lots s (get_or ts k no_trade)
written_at s [] k = sym (cond_same (same_series no_trade.series s) 0)
written_at s (t ∷ ts) zero = refl
written_at s (t ∷ ts) (suc k) = written_at s ts k

asked_at : (s : Series) (rs : List Request) (ns : List ℕ) (k : ℕ) → length ns ≡ length rs → get_or (asked s rs ns) k 0 ≡ asked_lots s (get_or rs k no_request) (get_or ns k 0)
asked_at s [] [] k e = sym (cond_same (same_series no_request.series s) 0)
asked_at s [] (n ∷ ns) k e = absurd (omega arith)
asked_at s (r ∷ rs) [] k e = absurd (omega arith)
asked_at s (r ∷ rs) (n ∷ ns) zero e = refl
asked_at s (r ∷ rs) (n ∷ ns) (suc k) e = asked_at s rs ns k (omega arith)

rows_spread : (ss : List Series) (rs : List Request) (ns : List ℕ) (ts : List Trade) (k : ℕ) → of_row k (pairings ss rs ns ts) ≤ spread (get_or ts k no_trade).series (get_or ts k no_trade).lots ss
rows_spread [] rs ns ts k = omega arith
rows_spread (s ∷ ss) rs ns ts k = omega (arith, of_row-append k (pairing s rs ns ts) (pairings ss rs ns ts), row_holds (written s ts) (asked s rs ns) k, written_at s ts k, rows_spread ss rs ns ts k)

pub rows_hold : (ss : List Series) (rs : List Request) (ns : List ℕ) (ts : List Trade) → Apart ss → (k : ℕ) → of_row k (pairings ss rs ns ts) ≤ (get_or ts k no_trade).lots
rows_hold ss rs ns ts apart k = omega (arith, rows_spread ss rs ns ts k, spread_once (get_or ts k no_trade).series (get_or ts k no_trade).lots ss apart)

requests_spread : (ss : List Series) (rs : List Request) (ns : List ℕ) (ts : List Trade) → length ns ≡ length rs → Covered rs ts → ((k : ℕ) → get_or ns k 0 ≤ (get_or rs k no_request).lots) → (k : ℕ) → of_request k (pairings ss rs ns ts) ≡ spread (get_or rs k no_request).series (get_or ns k 0) ss
requests_spread [] rs ns ts e covered ready k = refl
requests_spread (s ∷ ss) rs ns ts e covered ready k = omega (arith, of_request-append k (pairing s rs ns ts) (pairings ss rs ns ts), all_paired (written s ts) (asked s rs ns) (enough s rs ns ts covered ready) k, asked_at s rs ns k e, requests_spread ss rs ns ts e covered ready k)

spread_listed : (v : Series) (n : ℕ) (ss : List Series) → Apart ss → is_listed v ss ≡ true → spread v n ss ≡ n
spread_listed v n [] apart h = absurd (false≢true h)
spread_listed v n (s ∷ ss) apart h =
    ⊎_elim
    (λ here. omega (arith, cond-true (same_series v s) n 0 here, ap (λ u. spread u n ss) (same v s here), spread_none s n ss apart.0))
    (λ other. omega (arith, cond-false (same_series v s) n 0 other, spread_listed v n ss apart.1 (⊎_elim (λ here. absurd (both_ways (same_series v s) other here)) (λ later. later) (or_cases (same_series v s) (is_listed v ss) h))))
    (cases_Bool (same_series v s))

-- a request past the list has no lots to pair
pub ready_paired : (ss : List Series) (rs : List Request) (ns : List ℕ) (ts : List Trade) → Apart ss → length ns ≡ length rs → Covered rs ts → ((k : ℕ) → get_or ns k 0 ≤ (get_or rs k no_request).lots) → (k : ℕ) → is_listed (get_or rs k no_request).series ss ≡ true → of_request k (pairings ss rs ns ts) ≡ get_or ns k 0
ready_paired ss rs ns ts apart e covered ready k h = requests_spread ss rs ns ts e covered ready k ∙ spread_listed (get_or rs k no_request).series (get_or ns k 0) ss apart h
