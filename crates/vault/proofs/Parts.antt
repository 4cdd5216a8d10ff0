-- Vaults, and what they sum to. Assumes nothing.
use Rattle.std.proofs.Common.{is_ok, ⊎_elim, ◌≡◌, ℕ, ◌+◌, ◌-◌, ◌<◌, ◌≤◌, min, List, [], ◌∷◌, length, get_or, set, sum, sym, ap, ◌∙◌, arith, length-set}
use Rattle.std.proofs.lemmas.List.{get_or-map, length-map, map-set}
use Rattle.std.proofs.lemmas.List.Sums.{get_or-le-sum_by, sum_by-cons}
use Rattle.std.proofs.lemmas.Bool.{cases_Bool, cond-false, cond-true}
use Rattle.book.specs.Moves.{Accepted, added, after_move, move_answer, moved, taken}
use Rattle.vault.specs.Parts.{Has, joined, kept, parts, slot_amounts, vaults_after, vaults_moved, vaults_taken}
use Rattle.book.specs.MovesLemmas.{accepted, accepted_after, refused_after, target_within}

pub sum_kept : (n : ℕ) (vs : List ℕ) → n ≤ sum vs → sum (kept n vs) + n ≡ sum vs
sum_kept n [] le = omega arith
sum_kept n (v ∷ vs) le =
    let all : n ≤ v + sum vs = omega (arith, sum_by-cons (λ x. x) v vs) in
    omega (arith, sum_by-cons (λ x. x) v vs, sum_by-cons (λ x. x) (v - n) (kept (n - v) vs), sum_kept (n - v) vs (omega arith))

pub sum-parts : (n : ℕ) (vs : List ℕ) → n ≤ sum vs → sum (parts n vs) ≡ n
sum-parts n [] le = omega arith
sum-parts n (v ∷ vs) le =
    let all : n ≤ v + sum vs = omega (arith, sum_by-cons (λ x. x) v vs) in
    omega (arith, sum_by-cons (λ x. x) (min n v) (parts (n - v) vs), sum-parts (n - v) vs (omega arith))

sum-joined : (vs ps : List ℕ) → sum (joined vs ps) ≡ sum vs + sum ps
sum-joined [] ps = omega arith
sum-joined (v ∷ vs) [] = omega arith
sum-joined (v ∷ vs) (p ∷ ps) =
    omega (arith, sum_by-cons (λ x. x) v vs, sum_by-cons (λ x. x) p ps, sum_by-cons (λ x. x) (v + p) (joined vs ps), sum-joined vs ps)

pub slots_same : (rows : List (List ℕ)) → length (slot_amounts rows) ≡ length rows
slots_same rows = simp length-map

-- no slot holds more than all together
pub slot_within : (rows : List (List ℕ)) (a : ℕ) (d : List ℕ) → a < length rows → sum (get_or rows a d) ≤ sum (slot_amounts rows)
slot_within rows a d lt =
    let there : a < length (slot_amounts rows) = simp length-map lt in
    omega (arith, get_or-map sum rows a d 0 lt, get_or-le-sum_by (λ x. x) (slot_amounts rows) a 0 there)

module _ (rows : List (List ℕ)) (a b n : ℕ) (has : Has rows a b n) where
  pub has_accepted : Accepted (slot_amounts rows) a b n
  has_accepted = record {
    source = simp length-map has.source;
    target = simp length-map has.target;
    enough = simp (get_or-map sum rows a [] 0 has.source) has.enough;
  }

  amounts_taken : slot_amounts (vaults_taken rows a n) ≡ taken (slot_amounts rows) a n
  amounts_taken =
      let left : sum (kept n (get_or rows a [])) ≡ sum (get_or rows a []) - n = omega (arith, sum_kept n (get_or rows a []) has.enough) in
      map-set sum rows a (kept n (get_or rows a [])) ∙ ap (set (slot_amounts rows) a) (left ∙ ap (λ x. x - n) (sym (get_or-map sum rows a [] 0 has.source)))

  -- the amounts move as a book's do
  pub amounts_moved : slot_amounts (vaults_moved rows a b n) ≡ moved (slot_amounts rows) a b n
  amounts_moved =
      let kept_rows = vaults_taken rows a n in
      let lt : b < length kept_rows = simp length-set has.target in
      let more : sum (joined (get_or kept_rows b []) (parts n (get_or rows a []))) ≡ sum (get_or kept_rows b []) + n = omega (arith, sum-joined (get_or kept_rows b []) (parts n (get_or rows a [])), sum-parts n (get_or rows a []) has.enough) in
      map-set sum kept_rows b (joined (get_or kept_rows b []) (parts n (get_or rows a []))) ∙ ap (set (slot_amounts kept_rows) b) (more ∙ ap (λ x. x + n) (sym (get_or-map sum kept_rows b [] 0 lt))) ∙ ap (λ xs. added xs b n) amounts_taken

  -- what comes into the target's vaults is within the total
  pub parts_within : sum (get_or (vaults_taken rows a n) b []) + sum (parts n (get_or rows a [])) ≤ sum (slot_amounts rows)
  parts_within =
      let lt : b < length (vaults_taken rows a n) = simp length-set has.target in
      let held : get_or (taken (slot_amounts rows) a n) b 0 ≡ sum (get_or (vaults_taken rows a n) b []) = ap (λ xs. get_or xs b 0) (sym amounts_taken) ∙ get_or-map sum (vaults_taken rows a n) b [] 0 lt in
      omega (arith, sum-parts n (get_or rows a []) has.enough, held, target_within (slot_amounts rows) a b n has_accepted)

accepted_has : (rows : List (List ℕ)) (a b n : ℕ) → Accepted (slot_amounts rows) a b n → Has rows a b n
accepted_has rows a b n ok =
    let source : a < length rows = simp length-map at ok.source in
    record {
      source = source;
      target = simp length-map at ok.target;
      enough = simp (get_or-map sum rows a [] 0 source) at ok.enough;
    }

-- of all rows, the amounts after a move of vaults are those after a book's
pub amounts_after : (rows : List (List ℕ)) (a b n : ℕ) → slot_amounts (vaults_after rows a b n) ≡ after_move (slot_amounts rows) a b n
amounts_after rows a b n =
    let xs = slot_amounts rows in
    ⊎_elim
    (λ e. let has = accepted_has rows a b n (accepted xs a b n e) in ap slot_amounts (cond-true (is_ok (move_answer xs a b n)) (vaults_moved rows a b n) rows e) ∙ amounts_moved rows a b n has ∙ sym (accepted_after xs a b n (has_accepted rows a b n has)))
    (λ e. ap slot_amounts (cond-false (is_ok (move_answer xs a b n)) (vaults_moved rows a b n) rows e) ∙ sym (refused_after xs a b n e))
    (cases_Bool (is_ok (move_answer xs a b n)))
