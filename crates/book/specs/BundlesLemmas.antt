-- A book in bundles of f: a move of n there is one of n * f below. Assumes nothing.
use Rattle.std.specs.Prelude.{◌≡◌, ℕ, ◌+◌, ◌-◌, ◌*◌, ◌/◌, ◌^◌, ◌<◌, ◌≤◌, min, List, length, is_ok, Ok, Err, sum, nat_le, slice_index, slice_index_or}
use Rattle.std.proofs.Math.Logic.{⊎_elim}
use Rattle.std.proofs.Common.{sym, ap, ◌∙◌, div-lt_iff_lt-mul, div-le_self, div-mul-le_self, mul-le-mul_right, arith, length-set}
use Rattle.std.proofs.Math.Nat.{add-mul-div_right}
use Rattle.std.proofs.lemmas.List.{get_or-map, map-set, length-map}
use Rattle.std.proofs.lemmas.List.Sums.{get_or-le-sum_by, sum-map, sum_by-le-sum_by}
use Rattle.std.proofs.lemmas.Bool.{cases_Bool, cases_lt, le-leb, le-ltb, lt-leb, lt-ltb}
use Rattle.book.specs.declared.fault.BookFault.{BookFault}
use Rattle.book.specs.Bundles.{bundled}
use Rattle.book.specs.Moves.{Accepted, added, after_move, amount_answer, move_answer, moved, taken}
use Rattle.book.specs.MovesLemmas.{accepted, accepted_after, refused_after}

pub sum-bundled : (f : ℕ) (xs : List ℕ) → sum (bundled f xs) ≤ sum xs
sum-bundled f xs = omega (arith, sum-map (λ x. x / f) xs, sum_by-le-sum_by (λ x. x / f) (λ x. x) xs (λ x. div-le_self x f))

-- asked below, and then divided
pub amount_ok : (f : ℕ) (xs : List ℕ) (a v : ℕ) → amount_answer xs a ≡ Ok v → Ok (v / f) ≡ amount_answer (bundled f xs) a
amount_ok f xs a v e =
    ⊎_elim
    (λ (l : a < length xs). let held : v ≡ slice_index_or xs a 0 = grind (arith, lt-ltb a (length xs) l) in simp (length-map, lt-ltb a (length xs) l, get_or-map (λ x. x / f) xs a 0 0 l, held))
    (λ (l : length xs ≤ a). absurd (let z : ◌≡◌ {A = ℕ} 0 1 = cc (e, le-ltb a (length xs) l) in omega arith))
    (cases_lt a (length xs))

pub amount_err : (f : ℕ) (xs : List ℕ) (a : ℕ) (fault : BookFault) → amount_answer xs a ≡ Err fault → Err fault ≡ amount_answer (bundled f xs) a
amount_err f xs a fault e =
    ⊎_elim
    (λ (l : a < length xs). absurd (let z : ◌≡◌ {A = ℕ} 0 1 = cc (e, lt-ltb a (length xs) l) in omega arith))
    (λ (l : length xs ≤ a). sym e ∙ simp (length-map, le-ltb a (length xs) l))
    (cases_lt a (length xs))

module _ (f : ℕ) (pos : 0 < f) where
  leb_bundled : (n x : ℕ) → nat_le n (x / f) ≡ nat_le (n * f) x
  leb_bundled n x =
      ⊎_elim
      (λ (l : x / f < n). lt-leb n (x / f) l ∙ sym (lt-leb (n * f) x ((div-lt_iff_lt-mul pos).0 l)))
      (λ (l : n ≤ x / f). le-leb n (x / f) l ∙ sym (le-leb (n * f) x (omega (arith, div-mul-le_self x f, mul-le-mul_right f l))))
      (cases_lt (x / f) n)

  answer_bundled : (xs : List ℕ) (a b n : ℕ) → move_answer (bundled f xs) a b n ≡ move_answer xs a b (n * f)
  unfolding move_answer
  answer_bundled xs a b n =
      ⊎_elim
      (λ (l : a < length xs). simp (length-map, get_or-map (λ x. x / f) xs a 0 0 l, leb_bundled))
      (λ (l : length xs ≤ a). simp (length-map, le-ltb a (length xs) l))
      (cases_lt a (length xs))

  minus_bundled : (x n : ℕ) → n * f ≤ x → (x - n * f) / f ≡ x / f - n
  minus_bundled x n h =
      let e : x - n * f + n * f ≡ x = omega arith in
      let d = rw e at (add-mul-div_right (x - n * f) n pos) in
      omega arith

  moved_bundled : (xs : List ℕ) (a b n : ℕ) → Accepted xs a b (n * f) → moved (bundled f xs) a b n ≡ bundled f (moved xs a b (n * f))
  moved_bundled xs a b n ok =
      let left = taken xs a (n * f) in
      let t : taken (bundled f xs) a n ≡ bundled f left = rw (get_or-map (λ x. x / f) xs a 0 0 ok.source, ← minus_bundled (slice_index xs a) n ok.enough) (sym (map-set (λ x. x / f) xs a (slice_index xs a - n * f))) in
      let lt : b < length left = simp length-set ok.target in
      let g : added (bundled f left) b n ≡ bundled f (added left b (n * f)) = rw (get_or-map (λ x. x / f) left b 0 0 lt, ← add-mul-div_right (slice_index left b) n pos) (sym (map-set (λ x. x / f) left b (slice_index left b + n * f))) in
      ap (λ ys. added ys b n) t ∙ g

  after_bundled : (xs : List ℕ) (a b n : ℕ) → after_move (bundled f xs) a b n ≡ bundled f (after_move xs a b (n * f))
  after_bundled xs a b n =
      let same = ap is_ok (answer_bundled xs a b n) in
      ⊎_elim
      (λ e. let ok = accepted xs a b (n * f) e in accepted_after (bundled f xs) a b n (accepted (bundled f xs) a b n (same ∙ e)) ∙ moved_bundled xs a b n ok ∙ sym (ap (bundled f) (accepted_after xs a b (n * f) ok)))
      (λ e. refused_after (bundled f xs) a b n (same ∙ e) ∙ sym (ap (bundled f) (refused_after xs a b (n * f) e)))
      (cases_Bool (is_ok (move_answer xs a b (n * f))))

-- more than any slot can hold is refused like the largest number
leb_capped : (k x : ℕ) → x ≤ 10 ^ 18 → nat_le (min k (2 ^ 64 - 1)) x ≡ nat_le k x
leb_capped k x h =
    ⊎_elim
    (λ (l : x < k). let m : x < min k (2 ^ 64 - 1) = omega arith in lt-leb _ x m ∙ sym (lt-leb k x l))
    (λ (l : k ≤ x). let m : min k (2 ^ 64 - 1) ≤ x = omega arith in le-leb _ x m ∙ sym (le-leb k x l))
    (cases_lt x k)

module _ (xs : List ℕ) (a b k : ℕ) (most : sum xs ≤ 10 ^ 18) where
  answer_capped : move_answer xs a b (min k (2 ^ 64 - 1)) ≡ move_answer xs a b k
  unfolding move_answer
  answer_capped =
      ⊎_elim
      (λ (l : a < length xs). let held : slice_index_or xs a 0 ≤ 10 ^ 18 = omega (arith, get_or-le-sum_by (λ x. x) xs a 0 l) in simp (leb_capped k (slice_index xs a) held))
      (λ (l : length xs ≤ a). simp (le-ltb a (length xs) l))
      (cases_lt a (length xs))

  after_capped : after_move xs a b (min k (2 ^ 64 - 1)) ≡ after_move xs a b k
  after_capped =
      let same = ap is_ok answer_capped in
      ⊎_elim
      (λ e. let ok = accepted xs a b k e in let small : k ≤ 10 ^ 18 = omega (arith, get_or-le-sum_by (λ x. x) xs a 0 ok.source, ok.enough) in let m : min k (2 ^ 64 - 1) ≡ k = omega arith in ap (after_move xs a b) m)
      (λ e. refused_after xs a b (min k (2 ^ 64 - 1)) (same ∙ e) ∙ sym (refused_after xs a b k e))
      (cases_Bool (is_ok (move_answer xs a b k)))

module _ (f : ℕ) (pos : 0 < f) (xs : List ℕ) (a b n k : ℕ) (most : sum xs ≤ 10 ^ 18) (is : k ≡ min (n * f) (2 ^ 64 - 1)) where
  pub answer_below : move_answer xs a b k ≡ move_answer (bundled f xs) a b n
  answer_below = ap (move_answer xs a b) is ∙ answer_capped xs a b (n * f) most ∙ sym (answer_bundled f pos xs a b n)

  pub after_below : bundled f (after_move xs a b k) ≡ after_move (bundled f xs) a b n
  after_below = ap (λ m. bundled f (after_move xs a b m)) is ∙ ap (bundled f) (after_capped xs a b (n * f) most) ∙ sym (after_bundled f pos xs a b n)
