-- How an effect changes the number of owned pages: those owned after it and those handed back are those owned before and those granted.
-- Assumes nothing.
use Rattle.std.specs.Prelude.{◌≡◌, refl, Bool, true, false, cond, ◌≢◌, ℕ, zero, suc, ◌+◌, ◌<◌, eqb}
use Rattle.std.proofs.Common.{sym, ap, ap₂, ◌∙◌, arith}
use Rattle.std.proofs.Math.Decide.{ℕ_discrete}
use Rattle.words.specs.Choose.{cond_ne, cond_eq}
use Rattle.rules.specs.Limits.{pages}
use Rattle.words.specs.Decide.{does_true}
use Rattle.rules.specs.Module.{Module}
use Rattle.rules.specs.Heap.{dec_local}
use Rattle.rules.specs.State.{View}
use Rattle.rules.specs.Step.{Effect, assign, fetch, save, take_places, grant_page, free_place, go_to, emit, push, pop, finish, stop, stuck, closes, closed_pages, handed_back_by}
use Rattle.rules.specs.Footprint.{footprint}
use Rattle.rules.specs.Calls.{owned_below}
use Rattle.state.specs.Update.{upd, upd_same, upd_other}
use Rattle.state.specs.Apply.{closed_owner, apply}

pub owned_below_agree : (f g : ℕ → ℕ) (n : ℕ) → ((p : ℕ) → p < n → f p ≡ g p) → owned_below f n ≡ owned_below g n
unfolding owned_below
owned_below_agree f g zero h = refl
owned_below_agree f g (suc p) h =
    ap₂ (λ (x y : ℕ). x + cond (eqb y 0) 0 1) (owned_below_agree f g p (λ q l. h q (omega arith))) (h p (omega arith))

-- an unowned page that gets an owner
pub owned_granted : (f : ℕ → ℕ) (p x n : ℕ) → f p ≡ 0 → x ≢ 0 → p < n → owned_below (upd f p x) n ≡ owned_below f n + 1
unfolding owned_below
owned_granted f p x zero e d h = absurd (omega arith)
owned_granted f p x (suc q) e d h = by (ℕ_discrete p q) (λ l. owned_granted f p x q e d l)
  where
    by : Dec (p ≡ q) → (p < q → owned_below (upd f p x) q ≡ owned_below f q + 1)
        → owned_below (upd f p x) q + cond (eqb (upd f p x q) 0) 0 1 ≡ owned_below f q + cond (eqb (f q) 0) 0 1 + 1
    by (yes s) _ =
        let a : owned_below (upd f p x) q ≡ owned_below f q = owned_below_agree (upd f p x) f q (λ i l. upd_other f p x i (λ c. omega arith)) in
        let u : upd f p x q ≡ x = rw (← s) (upd_same f p x) in
        let b : cond {A = ℕ} (eqb (upd f p x q) 0) 0 1 ≡ 1 = cond_ne 0 1 (λ c. d (sym u ∙ c)) in
        let z : f q ≡ 0 = ap f (sym s) ∙ e in
        let c : cond {A = ℕ} (eqb (f q) 0) 0 1 ≡ 0 = cond_eq 0 1 z in
        omega arith
    by (no s) less =
        let a : owned_below (upd f p x) q ≡ owned_below f q + 1 = less (omega arith) in
        let b : upd f p x q ≡ f q = upd_other f p x q (λ c. s (sym c)) in
        rw b (omega arith)

-- pages that a return closes were owned
pub closes_owned : (m : Module) (v : View) (k p : ℕ) → closes m v k p ≡ true → v.owner p ≢ 0
closes_owned m v k p e z = let l = does_true (dec_local (m.function (v.fn k)) (v.map k) (v.owner p)) e in omega (arith, l.is)

pub owned_closed : (m : Module) (v : View) (k n : ℕ) → owned_below (closed_owner m v k) n + closed_pages m v k n ≡ owned_below v.owner n
unfolding owned_below closed_pages
owned_closed m v k zero = refl
owned_closed m v k (suc p) = by (closes m v k p) refl (owned_closed m v k p)
  where
    by : (b : Bool) → closes m v k p ≡ b → owned_below (closed_owner m v k) p + closed_pages m v k p ≡ owned_below v.owner p
        → owned_below (closed_owner m v k) p + cond (eqb (cond b 0 (v.owner p)) 0) 0 1 + (closed_pages m v k p + cond b 1 0) ≡ owned_below v.owner p + cond (eqb (v.owner p) 0) 0 1
    by true e ih =
        let a : cond {A = ℕ} (eqb (v.owner p) 0) 0 1 ≡ 1 = cond_ne 0 1 (closes_owned m v k p e) in
        omega arith
    by false e ih = omega arith

-- the page that is granted was unowned
abbrev pub GrantsUnowned : View → Effect → Type 0
GrantsUnowned v (assign a x) = Unit {0}
GrantsUnowned v (fetch b a x w) = Unit {0}
GrantsUnowned v (save b x w y) = Unit {0}
GrantsUnowned v (take_places p j c n a) = Unit {0}
GrantsUnowned v (grant_page p r c a) = (p < pages) × (v.owner p ≡ 0)
GrantsUnowned v (free_place p j) = Unit {0}
GrantsUnowned v (go_to d) = Unit {0}
GrantsUnowned v (emit x) = Unit {0}
GrantsUnowned v (push g μ ρ) = Unit {0}
GrantsUnowned v (pop c a x) = Unit {0}
GrantsUnowned v (finish x) = Unit {0}
GrantsUnowned v (stop n) = Unit {0}
GrantsUnowned v stuck = Unit {0}

pub pages_apply : (m : Module) (v : View) (k : ℕ) (e : Effect) → GrantsUnowned v e
    → owned_below (apply m k e v).owner pages + handed_back_by m v k e ≡ owned_below v.owner pages + (footprint e).grants
pages_apply m v k (assign a x) h = refl
pages_apply m v k (fetch b a x w) h = refl
pages_apply m v k (save b x w y) h = refl
pages_apply m v k (take_places p j c n a) h = refl
pages_apply m v k (grant_page p r c a) h = let g = owned_granted v.owner p (suc r) pages h.1 (λ e. omega arith) h.0 in omega arith
pages_apply m v k (free_place p j) h = refl
pages_apply m v k (go_to d) h = refl
pages_apply m v k (emit x) h = refl
pages_apply m v k (push g μ ρ) h = refl
pages_apply m v k (pop c a x) h = let g = owned_closed m v k pages in omega arith
pages_apply m v k (finish x) h = let g = owned_closed m v k pages in omega arith
pages_apply m v k (stop n) h = refl
pages_apply m v k stuck h = refl
