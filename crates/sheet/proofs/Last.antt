-- What is found from the back is the latest. Assumes nothing.
use Rattle.std.proofs.Common.{◌≡◌, ℕ, Bool, true, false, cond, List, [], ◌∷◌, Some, None, Option, refl, sym, ◌∙◌}
use Rattle.std.specs.Prelude.{find, reverse}
use Rattle.std.specs.Option.{option_map, option_or}
use Rattle.std.proofs.lemmas.List.{reverse-append}
use Rattle.std.proofs.lemmas.List.Folds.{find-append}
use Rattle.contract.specs.declared.series.Series.{Series}
use Rattle.contract.specs.Series.{same_series}
use Rattle.sheet.specs.declared.quote.Quote.{Quote}
use Rattle.sheet.specs.Quotes.{latest, latest_from_back, later}

abbrev is_for : Series → Quote → Bool
is_for s q = same_series q.series s

abbrev price_of : Option Quote → Option ℕ
price_of o = option_map (λ q. q.price) o

-- one quote, or else the price so far
or_so_far : (b : Bool) (q : Quote) (price : Option ℕ) → option_or (price_of (cond b (Some q) None)) price ≡ cond b (Some q.price) price
or_so_far true q price = refl
or_so_far false q price = refl

-- what was found after this quote stands before it
or_later : (s : Series) (found : Option Quote) (q : Quote) (price : Option ℕ) → option_or (price_of (option_or found (find (is_for s) (q ∷ [])))) price ≡ option_or (price_of found) (later s q price)
or_later s None q price = or_so_far (is_for s q) q price
or_later s (Some p) q price = refl

found_or : (s : Series) (qs : List Quote) (price : Option ℕ) → option_or (latest_from_back s qs) price ≡ latest s qs price
found_or s [] price = refl
found_or s (q ∷ qs) price = rw (reverse-append (q ∷ []) qs, find-append (is_for s) (reverse qs) (q ∷ [])) (or_later s (find (is_for s) (reverse qs)) q price ∙ found_or s qs (later s q price))

or_none : (price : Option ℕ) → option_or price None ≡ price
or_none None = refl
or_none (Some p) = refl

pub found_is_latest : (s : Series) (qs : List Quote) → latest_from_back s qs ≡ latest s qs None
found_is_latest s qs = sym (or_none (latest_from_back s qs)) ∙ found_or s qs None
