-- What a move leaves, slot by slot and in total. Assumes nothing.
use Rattle.std.specs.Prelude.{◌≡◌, ℕ, ◌+◌, ◌-◌, ◌<◌, ◌≤◌, true, false, ◌≢◌, List, length, set, is_ok, Ok, sum, slice_index, slice_index_or, slice_set, refl}
use Rattle.std.proofs.Common.{⊎_elim, sym, ap, subst, ◌∙◌, arith, length-set}
use Rattle.std.proofs.lemmas.List.{get_or-set_other, get_or-set_same, set_comm, set-get_or, set-set}
use Rattle.std.proofs.lemmas.List.Sums.{sum_by-set, get_or-le-sum_by}
use Rattle.std.proofs.lemmas.Bool.{cases_Bool, cases_eq, cond-false, cond-true, le-leb, lt-ltb}
use Rattle.book.specs.Moves.{Accepted, added, after_move, move_answer, moved, taken}

pub accepted : (xs : List ℕ) (a b n : ℕ) → is_ok (move_answer xs a b n) ≡ true → Accepted xs a b n
unfolding move_answer
accepted xs a b n ok = record { source = grind arith; target = grind arith; enough = grind arith }

pub length_moved : (xs : List ℕ) (a b n : ℕ) → length (moved xs a b n) ≡ length xs
length_moved xs a b n = simp length-set

pub sum-taken : (xs : List ℕ) (a n : ℕ) → a < length xs → n ≤ slice_index xs a → sum (taken xs a n) + n ≡ sum xs
sum-taken xs a n la ln = omega (arith, sum_by-set (λ x. x) xs a (slice_index xs a - n) 0 la)

sum_added : (xs : List ℕ) (b n : ℕ) → b < length xs → sum (added xs b n) ≡ sum xs + n
sum_added xs b n lb = omega (arith, sum_by-set (λ x. x) xs b (slice_index xs b + n) 0 lb)

pub sum_moved : (xs : List ℕ) (a b n : ℕ) → Accepted xs a b n → sum (moved xs a b n) ≡ sum xs
sum_moved xs a b n ok =
    let lt : b < length (taken xs a n) = simp length-set ok.target in
    sum_added (taken xs a n) b n lt ∙ sum-taken xs a n ok.source ok.enough

-- what the target holds after the move is within the total
pub target_within : (xs : List ℕ) (a b n : ℕ) → Accepted xs a b n → slice_index (taken xs a n) b + n ≤ sum xs
target_within xs a b n ok =
    let lt : b < length (taken xs a n) = simp length-set ok.target in
    omega (arith, get_or-le-sum_by (λ x. x) (taken xs a n) b 0 lt, sum-taken xs a n ok.source ok.enough)

pub accepted_answer : (xs : List ℕ) (a b n : ℕ) → Accepted xs a b n → move_answer xs a b n ≡ Ok tt
unfolding move_answer
accepted_answer xs a b n ok = simp (lt-ltb a (length xs) ok.source, lt-ltb b (length xs) ok.target, le-leb n (slice_index xs a) ok.enough)

pub accepted_after : (xs : List ℕ) (a b n : ℕ) → Accepted xs a b n → after_move xs a b n ≡ moved xs a b n
accepted_after xs a b n ok = cond-true (is_ok (move_answer xs a b n)) (moved xs a b n) xs (ap is_ok (accepted_answer xs a b n ok))

pub refused_after : (xs : List ℕ) (a b n : ℕ) → is_ok (move_answer xs a b n) ≡ false → after_move xs a b n ≡ xs
refused_after xs a b n e = cond-false (is_ok (move_answer xs a b n)) (moved xs a b n) xs e

-- what holds of a list that is left alone and of one after an accepted move holds after any move
by_answer : (P : List ℕ → Type 0) (xs : List ℕ) (a b n : ℕ) → P xs → (Accepted xs a b n → P (moved xs a b n)) → P (after_move xs a b n)
by_answer P xs a b n same moves =
    ⊎_elim
    (λ e. let ok = accepted xs a b n e in subst P (sym (accepted_after xs a b n ok)) (moves ok))
    (λ e. subst P (sym (refused_after xs a b n e)) same)
    (cases_Bool (is_ok (move_answer xs a b n)))

pub sum_after : (xs : List ℕ) (a b n : ℕ) → sum (after_move xs a b n) ≡ sum xs
sum_after xs a b n = by_answer (λ ys. sum ys ≡ sum xs) xs a b n refl (sum_moved xs a b n)

pub length_after : (xs : List ℕ) (a b n : ℕ) → length (after_move xs a b n) ≡ length xs
length_after xs a b n = by_answer (λ ys. length ys ≡ length xs) xs a b n refl (λ ok. length_moved xs a b n)

pub others_same : (xs : List ℕ) (a b n k : ℕ) → k ≢ a → k ≢ b → slice_index (after_move xs a b n) k ≡ slice_index xs k
others_same xs a b n k na nb =
    by_answer (λ ys. slice_index ys k ≡ slice_index xs k) xs a b n refl
    (λ ok. get_or-set_other (taken xs a n) b k (slice_index (taken xs a n) b + n) 0 nb ∙ get_or-set_other xs a k (slice_index xs a - n) 0 na)

moved_self : (xs : List ℕ) (a n : ℕ) → Accepted xs a a n → moved xs a a n ≡ xs
moved_self xs a n ok =
    let la : a < length xs = ok.source in
    let back : slice_index_or xs a 0 - n + n ≡ slice_index_or xs a 0 = omega (arith, ok.enough) in
    rw (get_or-set_same xs a (slice_index xs a - n) 0 la, set-set, back, set-get_or)

pub self_same : (xs : List ℕ) (a n : ℕ) → after_move xs a a n ≡ xs
self_same xs a n = by_answer (λ ys. ys ≡ xs) xs a a n refl (moved_self xs a n)

module _ (xs : List ℕ) (a b n : ℕ) (ok : Accepted xs a b n) (apart : a ≢ b) where
  -- between two slots, a move writes both from what they held
  moved_apart : moved xs a b n ≡ slice_set (slice_set xs a (slice_index xs a - n)) b (slice_index xs b + n)
  moved_apart = ap (λ x. set (taken xs a n) b (x + n)) (get_or-set_other xs a b (slice_index xs a - n) 0 (λ e. apart (sym e)))

  source_moved : slice_index_or (moved xs a b n) a 0 ≡ slice_index xs a - n
  source_moved = get_or-set_other (taken xs a n) b a (slice_index (taken xs a n) b + n) 0 apart ∙ get_or-set_same xs a (slice_index xs a - n) 0 ok.source

  target_moved : slice_index_or (moved xs a b n) b 0 ≡ slice_index xs b + n
  target_moved =
      let lt : b < length (slice_set xs a (slice_index xs a - n)) = simp length-set ok.target in
      ap (λ ys. slice_index ys b) moved_apart ∙ get_or-set_same (slice_set xs a (slice_index xs a - n)) b (slice_index xs b + n) 0 lt

  pub source_less : slice_index_or (after_move xs a b n) a 0 ≡ slice_index xs a - n
  source_less = ap (λ ys. slice_index ys a) (accepted_after xs a b n ok) ∙ source_moved

  pub target_more : slice_index_or (after_move xs a b n) b 0 ≡ slice_index xs b + n
  target_more = ap (λ ys. slice_index ys b) (accepted_after xs a b n ok) ∙ target_moved

pub first_part : (xs : List ℕ) (a b n m : ℕ) → Accepted xs a b (n + m) → Accepted xs a b n
first_part xs a b n m ok = record { source = ok.source; target = ok.target; enough = omega (arith, ok.enough) }

pub second_part : (xs : List ℕ) (a b n m : ℕ) → Accepted xs a b (n + m) → Accepted (after_move xs a b n) a b m
second_part xs a b n m ok =
    let len = length_after xs a b n in
    record {
      source = omega (arith, ok.source);
      target = omega (arith, ok.target);
      enough = ⊎_elim
          (λ (e : a ≡ b). let self : m ≤ slice_index_or (after_move xs a a n) a 0 = omega (arith, ok.enough, ap (λ ys. slice_index ys a) (self_same xs a n)) in subst (λ c. m ≤ slice_index (after_move xs a c n) a) e self)
          (λ (apart : a ≢ b). omega (arith, ok.enough, source_less xs a b n (first_part xs a b n m ok) apart))
          (cases_eq a b);
    }

-- a second write to both slots stands for the first
set_both : (xs : List ℕ) (a b u v w z : ℕ) → a ≢ b → slice_set (slice_set (slice_set (slice_set xs a u) b v) a w) b z ≡ slice_set (slice_set xs a w) b z
set_both xs a b u v w z apart =
    ap (λ ys. set ys b z) (set_comm (slice_set xs a u) b a v w (λ e. apart (sym e)) ∙ ap (λ ys. set ys b v) (set-set xs a u w))
    ∙ set-set (slice_set xs a w) b v z

module _ (xs : List ℕ) (a b n m : ℕ) (ok : Accepted xs a b (n + m)) (apart : a ≢ b) where
  moved_twice : moved (moved xs a b n) a b m ≡ moved xs a b (n + m)
  moved_twice =
      let first = first_part xs a b n m ok in
      let ys = moved xs a b n in
      let then : Accepted ys a b m = subst (λ l. Accepted l a b m) (accepted_after xs a b n first) (second_part xs a b n m ok) in
      let source : slice_index_or ys a 0 - m ≡ slice_index xs a - (n + m) = omega (arith, source_moved xs a b n first apart) in
      let target : slice_index_or ys b 0 + m ≡ slice_index xs b + (n + m) = omega (arith, target_moved xs a b n first apart) in
      moved_apart ys a b m then apart
      ∙ (λ j. set (slice_set (moved_apart xs a b n first apart j) a (source j)) b (target j))
      ∙ set_both xs a b (slice_index xs a - n) (slice_index xs b + n) (slice_index xs a - (n + m)) (slice_index xs b + (n + m)) apart
      ∙ sym (moved_apart xs a b (n + m) ok apart)

  after_twice : after_move (after_move xs a b n) a b m ≡ after_move xs a b (n + m)
  after_twice =
      let first = accepted_after xs a b n (first_part xs a b n m ok) in
      let then : Accepted (moved xs a b n) a b m = subst (λ l. Accepted l a b m) first (second_part xs a b n m ok) in
      ap (λ l. after_move l a b m) first ∙ accepted_after (moved xs a b n) a b m then ∙ moved_twice ∙ sym (accepted_after xs a b (n + m) ok)

pub parts_add : (xs : List ℕ) (a b n m : ℕ) → Accepted xs a b (n + m) → after_move (after_move xs a b n) a b m ≡ after_move xs a b (n + m)
parts_add xs a b n m ok =
    ⊎_elim
    (λ (e : a ≡ b). subst (λ c. after_move (after_move xs a c n) a c m ≡ after_move xs a c (n + m)) e (self_same (after_move xs a a n) a m ∙ self_same xs a n ∙ sym (self_same xs a (n + m))))
    (after_twice xs a b n m ok)
    (cases_eq a b)
