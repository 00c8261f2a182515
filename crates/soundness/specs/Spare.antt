-- The spare part of a state stays zero: frames not in use, registers and map entries that a function does not have, marks beyond the
-- last place of a page. Assumes nothing.
use Rattle.std.specs.Prelude.{◌≡◌, refl, ℕ, zero, suc, ◌+◌, ◌*◌, ◌<◌, ◌≤◌}
use Rattle.std.proofs.Common.{sym, ap, ◌∙◌, arith}
use Rattle.std.proofs.Math.Nat.{suc_inj}
use Rattle.std.proofs.Math.Decide.{ℕ_discrete}
use Rattle.words.specs.Choose.{cond_split}
use Rattle.rules.specs.Limits.{pages, page_bytes, most_registers, most_regions}
use Rattle.rules.specs.Module.{Module, regions}
use Rattle.rules.specs.Flat.{size}
use Rattle.rules.specs.State.{View}
use Rattle.rules.specs.Heap.{Live, type_of}
use Rattle.rules.specs.Step.{closes}
use Rattle.rules.specs.StateTest.{MarksEnd, SpareOk}
use Rattle.state.specs.Update.{upd, upd_same, upd_other, upd_cases, upd2_cases, set_marks_cases}
use Rattle.state.specs.Apply.{wrote, moved, saved, marked, occupied, emptied, granted, counted, pushed, closed, closed_owner, became}
use Rattle.soundness.specs.Facts.{ModuleOk}
use Rattle.soundness.specs.Good.{Good}
use Rattle.soundness.specs.Preserve.{SafePush, open_kept, left_owner, live_kept}

-- the marks of a page by its owner
module _ (m : Module) (v : View) (n p : ℕ) where
  ends_of : (x : ℕ) → ((r : ℕ) → x ≡ suc r → (j : ℕ) → j < page_bytes → page_bytes < size m (type_of m v.fn v.map n r) * suc j → v.mark p j ≡ 0) → MarksEnd m v n p x
  ends_of zero f = tt
  ends_of (suc r) f = f r refl

  of_ends : (x : ℕ) → MarksEnd m v n p x → (r : ℕ) → x ≡ suc r → (j : ℕ) → j < page_bytes → page_bytes < size m (type_of m v.fn v.map n r) * suc j → v.mark p j ≡ 0
  of_ends zero e r h = absurd (omega arith)
  of_ends (suc i) e r h = rw (← suc_inj h) e

pub spare_moved : (m : Module) (v : View) (k d : ℕ) → SpareOk m v (suc k) → SpareOk m (moved k d v) (suc k)
spare_moved m v k d c = record {
  functions = c.functions;
  instructions = λ j l h. upd_other v.pc k d j (omega arith) ∙ c.instructions j l h;
  frame_registers = c.frame_registers;
  frame_maps = c.frame_maps;
  registers = c.registers;
  maps = c.maps;
  marks = λ p l. ends_of m (moved k d v) (suc k) p (v.owner p) (of_ends m v (suc k) p (v.owner p) (c.marks p l));
}

pub spare_wrote : (m : Module) (v : View) (k a x : ℕ) → SpareOk m v (suc k) → a < (m.function (v.fn k)).registers → SpareOk m (wrote k a x v) (suc k)
spare_wrote m v k a x c i = record {
  functions = c.functions;
  instructions = λ j l h. upd_other v.pc k (suc (v.pc k)) j (omega arith) ∙ c.instructions j l h;
  frame_registers = λ j l h b o. upd2_cases (λ (y : ℕ). y ≡ 0) v.reg k a x j b (λ e d. absurd (omega arith)) (c.frame_registers j l h b o);
  frame_maps = c.frame_maps;
  registers = λ j h b o l. upd2_cases (λ (y : ℕ). y ≡ 0) v.reg k a x j b
      (λ e d. let past : (m.function (v.fn k)).registers ≤ b = rw e at l in absurd (omega arith)) (c.registers j h b o l);
  maps = c.maps;
  marks = λ p l. ends_of m (wrote k a x v) (suc k) p (v.owner p) (of_ends m v (suc k) p (v.owner p) (c.marks p l));
}

pub spare_saved : (m : Module) (v : View) (n x w y : ℕ) → SpareOk m v n → SpareOk m (saved x w y v) n
spare_saved m v n x w y c = record { functions = c.functions; instructions = c.instructions; frame_registers = c.frame_registers; frame_maps = c.frame_maps; registers = c.registers; maps = c.maps; marks = λ p l. ends_of m (saved x w y v) n p (v.owner p) (of_ends m v n p (v.owner p) (c.marks p l)) }

pub spare_became : (m : Module) (v : View) (n s x : ℕ) → SpareOk m v n → SpareOk m (became s x v) n
spare_became m v n s x c = record { functions = c.functions; instructions = c.instructions; frame_registers = c.frame_registers; frame_maps = c.frame_maps; registers = c.registers; maps = c.maps; marks = λ p l. ends_of m (became s x v) n p (v.owner p) (of_ends m v n p (v.owner p) (c.marks p l)) }

pub spare_counted : (m : Module) (v : View) (n : ℕ) → SpareOk m v n → SpareOk m (counted v) n
spare_counted m v n c = record { functions = c.functions; instructions = c.instructions; frame_registers = c.frame_registers; frame_maps = c.frame_maps; registers = c.registers; maps = c.maps; marks = λ p l. ends_of m (counted v) n p (v.owner p) (of_ends m v n p (v.owner p) (c.marks p l)) }

pub spare_emptied : (m : Module) (v : View) (n x s : ℕ) → SpareOk m v n → SpareOk m (emptied x s v) n
spare_emptied m v n x s c = record { functions = c.functions; instructions = c.instructions; frame_registers = c.frame_registers; frame_maps = c.frame_maps; registers = c.registers; maps = c.maps; marks = λ p l. ends_of m (emptied x s v) n p (v.owner p) (of_ends m v n p (v.owner p) (c.marks p l)) }

-- a mark taken away
pub spare_freed : (m : Module) (v : View) (n p j : ℕ) → SpareOk m v n → SpareOk m (marked p j 0 v) n
spare_freed m v n p j c = record {
  functions = c.functions;
  instructions = c.instructions;
  frame_registers = c.frame_registers;
  frame_maps = c.frame_maps;
  registers = c.registers;
  maps = c.maps;
  marks = λ q l. ends_of m (marked p j 0 v) n q (v.owner q) (λ r o i h w.
      upd2_cases (λ (y : ℕ). y ≡ 0) v.mark p j 0 q i (λ e d. refl) (of_ends m v n q (v.owner q) (c.marks q l) r o i h w));
}

-- the marks of c places that the page has
pub spare_occupied : (m : Module) (v : View) (n p j c : ℕ) → SpareOk m v n
    → ((r : ℕ) → v.owner p ≡ suc r → (i : ℕ) → i < j + c → size m (type_of m v.fn v.map n r) * suc i ≤ page_bytes) → SpareOk m (occupied p j c v) n
spare_occupied m v n p j c s f = record {
  functions = s.functions;
  instructions = s.instructions;
  frame_registers = s.frame_registers;
  frame_maps = s.frame_maps;
  registers = s.registers;
  maps = s.maps;
  marks = λ q l. ends_of m (occupied p j c v) n q (v.owner q) (λ r o i h w.
      set_marks_cases (λ (y : ℕ). y ≡ 0) v.mark p j c q i (λ e a b. absurd (let x = f r (rw e at o) i b in omega (arith, x, w))) (of_ends m v n q (v.owner q) (s.marks q l) r o i h w));
}

pub spare_granted : (m : Module) (v : View) (n p r : ℕ) → Good m v n → SpareOk m v n → v.owner p ≡ 0 → SpareOk m (granted p r v) n
spare_granted m v n p r g c z = record {
  functions = c.functions;
  instructions = c.instructions;
  frame_registers = c.frame_registers;
  frame_maps = c.frame_maps;
  registers = c.registers;
  maps = c.maps;
  marks = λ q l. ends_of m (granted p r v) n q (upd v.owner p (suc r) q) (λ x o i h w. go q l x o i h w (ℕ_discrete q p));
}
  where
    go : (q : ℕ) → q < pages → (x : ℕ) → upd v.owner p (suc r) q ≡ suc x → (i : ℕ) → i < page_bytes → page_bytes < size m (type_of m v.fn v.map n x) * suc i → Dec (q ≡ p) → v.mark q i ≡ 0
    go q l x o i h w (yes e) = g.marks q l i h (ap v.owner e ∙ z)
    go q l x o i h w (no d) = of_ends m v n q (v.owner q) (c.marks q l) x (sym (upd_other v.owner p (suc r) q d) ∙ o) i h w

pub spare_pushed : (m : Module) (ok : ModuleOk m) (v : View) (k g : ℕ) (μ ρ : ℕ → ℕ) → Good m v (suc k) → SafePush m v k g μ ρ → SpareOk m v (suc k) → SpareOk m (pushed k g μ ρ v) (suc (suc k))
spare_pushed m ok v k g μ ρ y f c = record {
  functions = λ j l h. upd_other v.fn (suc k) g j (omega arith) ∙ c.functions j l (omega arith);
  instructions = λ j l h. upd_other v.pc (suc k) 0 j (omega arith) ∙ c.instructions j l (omega arith);
  frame_registers = λ j l h a o. ap (λ (x : ℕ → ℕ). x a) (upd_other v.reg (suc k) ρ j (omega arith)) ∙ c.frame_registers j l (omega arith) a o;
  frame_maps = λ j l h i o. ap (λ (x : ℕ → ℕ). x i) (upd_other v.map (suc k) μ j (omega arith)) ∙ c.frame_maps j l (omega arith) i o;
  registers = λ j h a o l. register j h a o l (ℕ_discrete j (suc k));
  maps = λ j h i o l. entry j h i o l (ℕ_discrete j (suc k));
  marks = λ p b. ends_of m (pushed k g μ ρ v) (suc (suc k)) p (v.owner p) (λ r o j h w.
      let l : Live m v.fn v.map (suc k) (suc r) = rw o at (y.owners p b (rw o (omega arith))) in
      of_ends m v (suc k) p (v.owner p) (c.marks p b) r o j h (rw (live_kept m ok v k g μ ρ y f r l).type at w));
}
  where
    register : (j : ℕ) → j < suc (suc k) → (a : ℕ) → a < most_registers → (m.function (upd v.fn (suc k) g j)).registers ≤ a → Dec (j ≡ suc k) → upd v.reg (suc k) ρ j a ≡ 0
    register j h a o l (yes e) =
        let past : (m.function g).registers ≤ a = rw (e, upd_same v.fn (suc k) g) at l in
        ap (λ (x : ℕ). upd v.reg (suc k) ρ x a) e ∙ ap (λ (x : ℕ → ℕ). x a) (upd_same v.reg (suc k) ρ)
        ∙ f.zeros a (omega (arith, (ok.function g f.rule.known).ranges.few_params))
    register j h a o l (no d) = ap (λ (x : ℕ → ℕ). x a) (upd_other v.reg (suc k) ρ j d) ∙ c.registers j (omega arith) a o (rw (upd_other v.fn (suc k) g j d) at l)

    entry : (j : ℕ) → j < suc (suc k) → (i : ℕ) → i < most_regions → regions (m.function (upd v.fn (suc k) g j)) ≤ i → Dec (j ≡ suc k) → upd v.map (suc k) μ j i ≡ 0
    entry j h i o l (yes e) =
        ap (λ (x : ℕ). upd v.map (suc k) μ x i) e ∙ ap (λ (x : ℕ → ℕ). x i) (upd_same v.map (suc k) μ) ∙ f.spare i (rw (e, upd_same v.fn (suc k) g) at l)
    entry j h i o l (no d) = ap (λ (x : ℕ → ℕ). x i) (upd_other v.map (suc k) μ j d) ∙ c.maps j (omega arith) i o (rw (upd_other v.fn (suc k) g j d) at l)

pub spare_closed : (m : Module) (ok : ModuleOk m) (v : View) (k : ℕ) → Good m v (suc k) → SpareOk m v (suc k) → SpareOk m (closed m k v) k
spare_closed m ok v k g c = record {
  functions = λ j l h. upd_cases (λ (x : ℕ). x ≡ 0) v.fn k 0 j (λ e. refl) (λ e. c.functions j l (omega arith));
  instructions = λ j l h. upd_cases (λ (x : ℕ). x ≡ 0) v.pc k 0 j (λ e. refl) (λ e. c.instructions j l (omega arith));
  frame_registers = λ j l h a o. upd_cases (λ (x : ℕ → ℕ). x a ≡ 0) v.reg k (λ _. 0) j (λ e. refl) (λ e. c.frame_registers j l (omega arith) a o);
  frame_maps = λ j l h i o. upd_cases (λ (x : ℕ → ℕ). x i ≡ 0) v.map k (λ _. 0) j (λ e. refl) (λ e. c.frame_maps j l (omega arith) i o);
  registers = λ j h a o l.
      ap (λ (x : ℕ → ℕ). x a) (upd_other v.reg k (λ _. 0) j (omega arith)) ∙ c.registers j (omega arith) a o (rw (upd_other v.fn k 0 j (λ e. omega arith)) at l);
  maps = λ j h i o l.
      ap (λ (x : ℕ → ℕ). x i) (upd_other v.map k (λ _. 0) j (omega arith)) ∙ c.maps j (omega arith) i o (rw (upd_other v.fn k 0 j (λ e. omega arith)) at l);
  marks = λ p b. ends_of m (closed m k v) k p (closed_owner m v k p) (λ r o j h w.
      let q = left_owner m ok v k g p (rw o (omega arith)) in
      let own : v.owner p ≡ suc r = sym q.0 ∙ o in
      let e = (open_kept m ok v k g r (λ z. q.1 (rw own z))).type in
      cond_split (λ (x : ℕ). x ≡ 0) (closes m v k p) 0 (v.mark p j) (λ _. refl) (λ _. of_ends m v (suc k) p (v.owner p) (c.marks p b) r own j h (rw e at w)));
}
