-- How many pairs there can be. Assumes nothing.
use Rattle.std.proofs.Common.{◌≡◌, ℕ, ◌+◌, ◌-◌, ◌≤◌, cond, eqb, List, [], ◌∷◌, length, refl, arith}
use Rattle.std.proofs.lemmas.List.{length-append}
use Rattle.std.proofs.lemmas.Bool.Decides.{nat_tests}
use Rattle.contract.specs.declared.series.Series.{Series}
use Rattle.contract.specs.Series.{same_series}
use Rattle.pairing.specs.declared.rows.Pair.{Pair}
use Rattle.pairing.specs.declared.rows.Request.{Request}
use Rattle.pairing.specs.declared.rows.Trade.{Trade}
use Rattle.pairing.specs.Pairing.{asked, written, serve, matched, pairing, pairings}
use Rattle.pairing.proofs.Apart.{Apart, spread, spread_once}

-- how many have lots
abbrev filled : List ℕ → ℕ
filled [] = 0
filled (n ∷ ns) = cond (eqb n 0) 0 1 + filled ns

-- each pair uses up its row or its request
serve_few : (more : ℕ → List ℕ → List Pair) (b : ℕ) → ((i : ℕ) (rs : List ℕ) → length (more i rs) ≤ b + filled rs - 1) → (j w i : ℕ) (rs : List ℕ) → length (serve more j w i rs) ≤ cond (eqb w 0) 0 1 + b + filled rs - 1
serve_few more b h j w i [] = omega arith
serve_few more b h j w i (r ∷ rs) =
    let f = h i ((r - w) ∷ rs) in
    let g = serve_few more b h j (w - r) (i + 1) rs in
    grind (arith, nat_tests)

matched_few : (j : ℕ) (ws : List ℕ) (i : ℕ) (rs : List ℕ) → length (matched j ws i rs) ≤ filled ws + filled rs - 1
matched_few j [] i rs = omega arith
matched_few j (w ∷ ws) i rs = serve_few (matched (j + 1) ws) (filled ws) (λ i rs. matched_few (j + 1) ws i rs) j w i rs

-- how many requests, and rows, are of a series
abbrev requests_in : Series → List Request → ℕ
requests_in s [] = 0
requests_in s (r ∷ rs) = cond (same_series r.series s) 1 0 + requests_in s rs

abbrev rows_in : Series → List Trade → ℕ
rows_in s [] = 0
rows_in s (t ∷ ts) = cond (same_series t.series s) 1 0 + rows_in s ts

asked_few : (s : Series) (rs : List Request) (ns : List ℕ) → filled (asked s rs ns) ≤ requests_in s rs
asked_few s [] ns = omega arith
asked_few s (r ∷ rs) [] = omega arith
asked_few s (r ∷ rs) (n ∷ ns) = let f = asked_few s rs ns in grind (arith, nat_tests)

written_few : (s : Series) (ts : List Trade) → filled (written s ts) ≤ rows_in s ts
written_few s [] = omega arith
written_few s (t ∷ ts) = let f = written_few s ts in grind (arith, nat_tests)

-- over all series
abbrev all_requests : List Series → List Request → ℕ
all_requests [] rs = 0
all_requests (s ∷ ss) rs = requests_in s rs + all_requests ss rs

abbrev all_rows : List Series → List Trade → ℕ
all_rows [] ts = 0
all_rows (s ∷ ss) ts = rows_in s ts + all_rows ss ts

all_requests-cons : (ss : List Series) (r : Request) (rs : List Request) → all_requests ss (r ∷ rs) ≡ spread r.series 1 ss + all_requests ss rs
all_requests-cons [] r rs = refl
all_requests-cons (s ∷ ss) r rs = omega (arith, all_requests-cons ss r rs)

all_rows-cons : (ss : List Series) (t : Trade) (ts : List Trade) → all_rows ss (t ∷ ts) ≡ spread t.series 1 ss + all_rows ss ts
all_rows-cons [] t ts = refl
all_rows-cons (s ∷ ss) t ts = omega (arith, all_rows-cons ss t ts)

no_requests : (ss : List Series) → all_requests ss [] ≡ 0
no_requests [] = refl
no_requests (s ∷ ss) = omega (arith, no_requests ss)

no_rows : (ss : List Series) → all_rows ss [] ≡ 0
no_rows [] = refl
no_rows (s ∷ ss) = omega (arith, no_rows ss)

requests_once : (ss : List Series) (rs : List Request) → Apart ss → all_requests ss rs ≤ length rs
requests_once ss [] h = omega (arith, no_requests ss)
requests_once ss (r ∷ rs) h = omega (arith, all_requests-cons ss r rs, requests_once ss rs h, spread_once r.series 1 ss h)

rows_once : (ss : List Series) (ts : List Trade) → Apart ss → all_rows ss ts ≤ length ts
rows_once ss [] h = omega (arith, no_rows ss)
rows_once ss (t ∷ ts) h = omega (arith, all_rows-cons ss t ts, rows_once ss ts h, spread_once t.series 1 ss h)

pairings_few : (ss : List Series) (rs : List Request) (ns : List ℕ) (ts : List Trade) → length (pairings ss rs ns ts) ≤ all_requests ss rs + all_rows ss ts - 1
pairings_few [] rs ns ts = omega arith
pairings_few (s ∷ ss) rs ns ts =
    omega (arith, length-append (pairing s rs ns ts) (pairings ss rs ns ts), matched_few 0 (written s ts) 0 (asked s rs ns), asked_few s rs ns, written_few s ts, pairings_few ss rs ns ts)

-- fewer than the requests and the rows together
pub few_pairs : (ss : List Series) (rs : List Request) (ns : List ℕ) (ts : List Trade) → Apart ss → length (pairings ss rs ns ts) ≤ length rs + length ts - 1
few_pairs ss rs ns ts h = omega (arith, pairings_few ss rs ns ts, requests_once ss rs h, rows_once ss ts h)
