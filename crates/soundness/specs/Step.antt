-- One step: a safe effect keeps the state test, and moves the count of owned pages by what it grants and hands back.
-- Assumes nothing.
use Rattle.std.specs.Prelude.{◌≡◌, refl, cond, ◌⊎◌, ℕ, zero, suc, ◌+◌, ◌*◌, ◌<◌, ◌≤◌, eqb}
use Rattle.std.proofs.Common.{sym, ◌∙◌, subst, inl, inr, not-suc-le-zero, mul-le-mul_left, arith}
use Rattle.std.proofs.Math.Nat.{suc_inj}
use Rattle.std.proofs.Math.Decide.{dec_lt}
use Rattle.words.specs.Choose.{cond_eq}
use Rattle.rules.specs.Limits.{pages, page_bytes, output_bytes}
use Rattle.rules.specs.Types.{live, Tree, int, width}
use Rattle.rules.specs.Module.{Module, regions}
use Rattle.rules.specs.Flat.{size}
use Rattle.rules.specs.State.{View, memory_number}
use Rattle.rules.specs.Heap.{close, type_of, heap_typing, Value}
use Rattle.rules.specs.Step.{Effect, assign, fetch, save, take_places, grant_page, free_place, go_to, emit, push, pop, finish, stop, stuck, handed_back_by}
use Rattle.rules.specs.Footprint.{footprint}
use Rattle.rules.specs.StateTest.{StatusOk, running, stopped, ended, SpareOk}
use Rattle.rules.specs.Calls.{owned_below}
use Rattle.layout.specs.Types.{outer_close}
use Rattle.layout.specs.Heap.{Slot, Kept, value_keep}
use Rattle.state.specs.Update.{upd, upd_same, upd_other, memory_number_lt}
use Rattle.state.specs.Apply.{wrote, moved, saved, marked, occupied, emptied, granted, counted, pushed, closed, became, apply, nothing}
use Rattle.state.specs.Pages.{GrantsUnowned, pages_apply}
use Rattle.soundness.specs.Facts.{ModuleOk}
use Rattle.soundness.specs.Good.{Good}
use Rattle.soundness.specs.Preserve.{good_moved, good_wrote, good_saved, good_stored, good_freed, good_occupied, good_emptied, good_granted, good_closed, good_pushed, open_kept, below_open}
use Rattle.soundness.specs.Spare.{spare_moved, spare_wrote, spare_saved, spare_became, spare_counted, spare_emptied, spare_freed, spare_occupied, spare_granted, spare_pushed, spare_closed}
use Rattle.soundness.specs.Safe.{SafeFetch, SavesPrimitive, UntypedByte, SafePop, Safe}

-- ---- pages

-- a page that is granted was unowned
grants_unowned : (m : Module) (v : View) (k : ℕ) (e : Effect) → Safe m v k e → GrantsUnowned v e
grants_unowned m v k (assign a x) f = tt
grants_unowned m v k (fetch b a x w) f = tt
grants_unowned m v k (save b x w y) f = tt
grants_unowned m v k (take_places p j c n a) f = tt
grants_unowned m v k (grant_page p r c a) f = (f.inside, f.unowned)
grants_unowned m v k (free_place p j) f = tt
grants_unowned m v k (go_to d) f = tt
grants_unowned m v k (emit x) f = tt
grants_unowned m v k (push g μ ρ) f = tt
grants_unowned m v k (pop c a x) f = tt
grants_unowned m v k (finish x) f = tt
grants_unowned m v k (stop n) f = tt
grants_unowned m v k stuck f = tt

pub pages_step : (m : Module) (v : View) (k : ℕ) (e : Effect) → Safe m v k e
    → owned_below (apply m k e v).owner pages + handed_back_by m v k e ≡ owned_below v.owner pages + (footprint e).grants
pages_step m v k e f = pages_apply m v k e (grants_unowned m v k e f)

owned_none : (f : ℕ → ℕ) (n : ℕ) → ((p : ℕ) → p < n → f p ≡ 0) → owned_below f n ≡ 0
unfolding owned_below
owned_none f zero h = refl
owned_none f (suc n) h =
    let a : cond {A = ℕ} (eqb (f n) 0) 0 1 ≡ 0 = cond_eq 0 1 (h n (omega arith)) in
    let b : owned_below f n ≡ 0 = owned_none f n (λ p l. h p (omega arith)) in
    omega arith

-- ---- the state test, of a view

pub record Test (m : Module) (v : View) : Type 0 where
  pub status : StatusOk v
  pub output : v.output_count ≤ output_bytes
  pub good : Good m v v.frames
  pub spare : SpareOk m v v.frames

good_became : (m : Module) (v : View) (n s x : ℕ) → Good m v n → Good m (became s x v) n
good_became m v n s x g = record { frames = g.frames; in_range = g.in_range; owners = g.owners; marks = g.marks; registers = g.registers; slots = g.slots }

good_counted : (m : Module) (v : View) (n : ℕ) → Good m v n → Good m (counted v) n
good_counted m v n g = record { frames = g.frames; in_range = g.in_range; owners = g.owners; marks = g.marks; registers = g.registers; slots = g.slots }

-- 34: back in the caller
module _ (m : Module) (ok : ModuleOk m) (v : View) (c a x : ℕ) (g : Good m v (suc (suc c))) (f : SafePop m v (suc c) c a x) where
  caller_fn : upd v.fn (suc c) 0 c ≡ v.fn c
  caller_fn = upd_other v.fn (suc c) 0 c (omega arith)

  good_popped : Good m (wrote c a x (closed m (suc c) v)) (suc c)
  good_popped =
      let before = heap_typing m v (suc (suc c)) in
      let after = heap_typing m (closed m (suc c) v) (suc c) in
      let pc_c : upd v.pc (suc c) 0 c ≡ v.pc c = upd_other v.pc (suc c) 0 c (omega arith) in
      let map_c : upd v.map (suc c) nothing c ≡ v.map c = upd_other v.map (suc c) nothing c (omega arith) in
      let T = (m.function (v.fn c)).register_type a in
      let kept = value_keep m before after (close (v.map c) T) x
      (outer_close (Kept before after) (v.map c) (regions (m.function (v.fn c))) T ((ok.function (v.fn c) (g.frames.known c (omega arith))).register_scope a f.register)
      (λ y l. open_kept m ok v (suc c) g (v.map c y) (below_open m ok v (suc c) g c y (omega arith) l)))
      f.value in
      good_wrote m (closed m (suc c) v) c a x (good_closed m ok v (suc c) g) (rw (caller_fn, pc_c) f.next) (rw (caller_fn, map_c) kept)

  spare_popped : SpareOk m v (suc (suc c)) → SpareOk m (wrote c a x (closed m (suc c) v)) (suc c)
  spare_popped y = spare_wrote m (closed m (suc c) v) c a x (spare_closed m ok v (suc c) g y) (rw caller_fn f.register)

-- 25, 37: what a safe load fetches is a value of its register's type, where page bytes are bytes
pub fetched : (m : Module) (v : View) (k b a x w : ℕ) → ((i : ℕ) → v.memory i < 256) → Good m v (suc k) → SafeFetch m v k b a x w
    → Value m (heap_typing m v (suc k)) (close (v.map k) ((m.function (v.fn k)).register_type a)) (memory_number v.memory x w)
fetched m v k b a x w small g f = go (close (v.map k) ((m.function (v.fn k)).register_type a)) f.bytes f.from
  where
    go : (T : Tree live) → w ≡ width T → Slot m (heap_typing m v (suc k)) x T ⊎ ((T ≡ int w) × UntypedByte m v k x w) → Value m (heap_typing m v (suc k)) T (memory_number v.memory x w)
    go T is (inl s) = rw is (g.slots x T s)
    go T is (inr e) = rw e.0 (memory_number_lt v.memory x w small)

-- 26, 38: a safe store keeps a good state good
stored_good : (m : Module) (v : View) (k x w y : ℕ) → Good m v (suc k) → SavesPrimitive m v k x w y ⊎ UntypedByte m v k x w → Good m (saved x w y v) (suc k)
stored_good m v k x w y g (inl s) = rw s.bytes (good_saved m v (suc k) x y s.type g s.slot s.value)
stored_good m v k x w y g (inr s) = rw (s.address, s.one) (good_stored m v (suc k) s.start s.offset y s.count s.region g s.inside s.below)

-- a state that runs on
going : (m : Module) (u : View) (n : ℕ) → u.frames ≡ suc n → u.status ≡ 0 → u.result ≡ 0 → u.output_count ≤ output_bytes → Good m u (suc n) → SpareOk m u (suc n) → Test m u
going m u n e s z o g c = record {
  status = running s (rw e (omega arith)) z;
  output = o;
  good = subst (λ (i : ℕ). Good m u i) (sym e) g;
  spare = subst (λ (i : ℕ). SpareOk m u i) (sym e) c;
}

-- Preservation: after a safe effect of a good state whose page bytes are bytes, with top frame k, the state passes the test.
pub preserve : (m : Module) → ModuleOk m → (v : View) → ((i : ℕ) → v.memory i < 256) → (k : ℕ) (e : Effect) → v.frames ≡ suc k → v.status ≡ 0 → v.result ≡ 0 → v.output_count ≤ output_bytes
    → Good m v (suc k) → SpareOk m v (suc k) → Safe m v k e → Test m (apply m k e v)
preserve m ok v small k (assign a x) n s z o g c f = going m (wrote k a x v) k n s z o (good_wrote m v k a x g f.next f.value) (spare_wrote m v k a x c f.register)
preserve m ok v small k (fetch b a x w) n s z o g c f =
    let y : ℕ = memory_number v.memory x w in
    going m (wrote k a y v) k n s z o (good_wrote m v k a y g f.next (fetched m v k b a x w small g f)) (spare_wrote m v k a y c f.register)
preserve m ok v small k (save b x w y) n s z o g c f =
    going m (moved k (suc (v.pc k)) (saved x w y v)) k n s z o
    (good_moved m (saved x w y v) k (suc (v.pc k)) (stored_good m v k x w y g f.what) f.next)
    (spare_moved m (saved x w y v) k (suc (v.pc k)) (spare_saved m v (suc k) x w y c))
preserve m ok v small k (take_places p j h w a) n s z o g c f =
    let x : ℕ = page_bytes * p + w * j in
    let u : View = occupied p j h v in
    let t : View = emptied x (w * h) u in
    going m (wrote k a x t) k n s z o
    (good_wrote m t k a x
    (good_emptied m u (suc k) p j h w f.region (good_occupied m v (suc k) p j h g (λ e. omega (arith, e, f.own))) f.own f.size f.fits)
    f.register.next f.register.value)
    (spare_wrote m t k a x
    (spare_emptied m u (suc k) x (w * h) (spare_occupied m v (suc k) p j h c (λ r e i l.
    let q : r ≡ f.region = suc_inj (sym e ∙ f.own) in
    rw (q, ← f.size) (omega (arith, f.fits, mul-le-mul_left w l)))))
    f.register.register)
preserve m ok v small k (grant_page p r h a) n s z o g c f =
    let u : View = granted p r v in
    let t : View = occupied p 0 h u in
    going m (wrote k a (page_bytes * p) t) k n s z o
    (good_wrote m t k a (page_bytes * p)
    (good_occupied m u (suc k) p 0 h (good_granted m v (suc k) p r g f.in_range f.unowned f.alive)
    (λ d. let e : suc r ≡ 0 = sym (upd_same v.owner p (suc r)) ∙ d in omega arith))
    f.register.next f.register.value)
    (spare_wrote m t k a (page_bytes * p)
    (spare_occupied m u (suc k) p 0 h (spare_granted m v (suc k) p r g c f.unowned) (λ x d i l.
    let e : x ≡ r = suc_inj (sym d ∙ upd_same v.owner p (suc r)) in
    let few : suc i ≤ h = omega arith in
    rw e (omega (arith, f.fits, mul-le-mul_left (size m (type_of m v.fn v.map (suc k) r)) few))))
    f.register.register)
preserve m ok v small k (free_place p j) n s z o g c f =
    going m (moved k (suc (v.pc k)) (marked p j 0 v)) k n s z o (good_moved m (marked p j 0 v) k (suc (v.pc k)) (good_freed m v (suc k) p j g) f.next)
    (spare_moved m (marked p j 0 v) k (suc (v.pc k)) (spare_freed m v (suc k) p j c))
preserve m ok v small k (go_to d) n s z o g c f = going m (moved k d v) k n s z o (good_moved m v k d g f) (spare_moved m v k d c)
preserve m ok v small k (emit x) n s z o g c f =
    going m (moved k (suc (v.pc k)) (counted v)) k n s z f.1 (good_moved m (counted v) k (suc (v.pc k)) (good_counted m v (suc k) g) f.0)
    (spare_moved m (counted v) k (suc (v.pc k)) (spare_counted m v (suc k) c))
preserve m ok v small k (push h μ ρ) n s z o g c f = going m (pushed k h μ ρ v) (suc k) refl s z o (good_pushed m ok v k h μ ρ g f) (spare_pushed m ok v k h μ ρ g f c)
preserve m ok v small k (pop b a x) n s z o g c f = go k f.caller g c f
  where
    go : (j : ℕ) → j ≡ suc b → Good m v (suc j) → SpareOk m v (suc j) → SafePop m v j b a x → Test m (wrote b a x (closed m j v))
    go j e = subst (λ (i : ℕ). Good m v (suc i) → SpareOk m v (suc i) → SafePop m v i b a x → Test m (wrote b a x (closed m i v))) (sym e)
        (λ y d p. going m (wrote b a x (closed m (suc b) v)) b refl s z o (good_popped m ok v b a x y p) (spare_popped m ok v b a x y p d))
preserve m ok v small k (finish x) n s z o g c f =
    record {
      status = ended refl f.0;
      output = o;
      good = good_became m (closed m k v) k 1 x (good_closed m ok v k g);
      spare = spare_became m (closed m k v) k 1 x (spare_closed m ok v k g c);
    }
preserve m ok v small k (stop i) n s z o g c f =
    record {
      status = stopped f (rw n (omega arith)) z;
      output = o;
      good = subst (λ (j : ℕ). Good m (became i v.result v) j) (sym n) (good_became m v (suc k) i v.result g);
      spare = subst (λ (j : ℕ). SpareOk m (became i v.result v) j) (sym n) (spare_became m v (suc k) i v.result c);
    }
preserve m ok v small k stuck n s z o g c f = absurd f

-- once the module has ended no page is owned
pub ended_none : (m : Module) (v : View) → Good m v 0 → owned_below v.owner pages ≡ 0
ended_none m v g = owned_none v.owner pages (λ p h. go p h (dec_lt 0 (v.owner p)))
  where
    go : (p : ℕ) → p < pages → Dec (0 < v.owner p) → v.owner p ≡ 0
    go p h (yes l) = absurd (not-suc-le-zero (g.owners p h l).below)
    go p h (no n) = omega arith
