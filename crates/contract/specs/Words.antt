-- The words that name a kind and a price.
use Rattle.std.specs.Prelude.{◌≡◌, ℕ, ◌^◌, cond, List, Ok, Err, codes, Result}
use Rattle.std.specs.Str.Parse.{IsNumeral, without_leading_plus, digits_value}
use Rattle.std.specs.Str.{bytes_eq}
use Rattle.contract.specs.declared.fault.ContractFault.{ContractFault}
use Rattle.contract.specs.declared.series.Kind.{Kind}
use Rattle.contract.specs.declared.series.Kind.TheVariants.{Call, Put}
use Rattle.contract.specs.declared.series.UnknownKind.{UnknownKind}
use Rattle.contract.specs.Ranges.{Within}

abbrev pub word_of : Kind → List ℕ
word_of Call = codes "call"
word_of Put = codes "put"

abbrev pub kind_of_word : List ℕ → Result Kind UnknownKind
kind_of_word word = cond (bytes_eq word (word_of Call)) (Ok Call) (cond (bytes_eq word (word_of Put)) (Ok Put) (Err (record {})))

abbrev pub KindRead : List ℕ → Result Kind UnknownKind → Type 0
KindRead word answer = answer ≡ kind_of_word word

-- the word is digits, after a plus sign if it has one, and they write n
abbrev pub Writes : List ℕ → ℕ → Type 0
Writes word n = IsNumeral 10 (without_leading_plus word) × (digits_value 10 (without_leading_plus word) ≡ n)

-- a price is read exactly from a word that writes one
abbrev pub PriceRead : List ℕ → Result ℕ ContractFault → Type 0
PriceRead word (Ok p) = Within 1 (10 ^ 9) p × Writes word p
PriceRead word (Err e) = ((n : ℕ) → Within 1 (10 ^ 9) n → Writes word n → ⊥) × (e ≡ ContractFault.Price)
