-- What a state that passes the state test has, as the proof uses it: the frames as the test words them, and each primitive of a page as
-- a value. Then what follows of live regions: each region in a frame's map is live, below 112, and has the type that the frame's
-- function says. Assumes nothing.
use Rattle.std.specs.Prelude.{◌≡◌, refl, cond, ◌≢◌, List, ◌∷◌, ◌++◌, eqb, length}
use Rattle.std.proofs.Common.{sym, ap, ◌∙◌, subst, not-suc-le-zero, arith, length-append}
use Prim.Native.Nat.{ℕ, zero, suc, ◌+◌, ◌*◌, ◌-◌, ◌<◌, ◌≤◌}
use Rattle.std.proofs.Math.Nat.{suc_inj}
use Rattle.std.proofs.Math.Decide.{ℕ_discrete, dec_lt}
use Rattle.words.specs.Choose.{cond_eq, cond_ne}
use Rattle.rules.specs.Limits.{pages, page_bytes, live_regions}
use Rattle.rules.specs.Types.{variable, live, Variable, region, Tree, sub, width, arg, Uses}
use Rattle.rules.specs.Module.{Module, Function, regions, argument, call}
use Rattle.rules.specs.Flat.{Has, flat}
use Rattle.rules.specs.Typing.{◌⊢◌∶◌, Typed, t_call}
use Rattle.rules.specs.State.{InRange, View, memory_number}
use Rattle.rules.specs.Heap.{close, Local, Live, local_list, live_list, look, type_of, heap_typing, Value}
use Rattle.rules.specs.StateTest.{Chained, FramesOk}
use Rattle.state.specs.Regions.{length_local_list}
use Rattle.soundness.specs.Fresh.{In, in_head, in_tail, in_left, in_right}
use Rattle.layout.specs.Types.{close_agree, close_sub, Outer, outer_close}
use Rattle.layout.specs.Close.{has_close_region}
use Rattle.layout.specs.Heap.{Slot}
use Rattle.typing.specs.Facts.{FunctionFacts}
use Rattle.soundness.specs.Facts.{ModuleOk}

-- The state test for a state with n frames, but for the status and the spare bytes.
pub record Good (m : Module) (v : View) (n : ℕ) : Type 0 where
  pub frames : FramesOk m v.fn v.pc v.map n
  pub in_range : (p : ℕ) → p < pages → 0 < v.owner p → InRange v.range p
  pub owners : (p : ℕ) → p < pages → 0 < v.owner p → Live m v.fn v.map n (v.owner p)
  pub marks : (p : ℕ) → p < pages → (j : ℕ) → j < page_bytes → v.owner p ≡ 0 → v.mark p j ≡ 0
  pub registers : (k : ℕ) → k < n → (a : ℕ) → a < (m.function (v.fn k)).registers
      → Value m (heap_typing m v n) (close (v.map k) ((m.function (v.fn k)).register_type a)) (v.reg k a)
  pub slots : (x : ℕ) (q : Tree live) → Slot m (heap_typing m v n) x q → Value m (heap_typing m v n) q (memory_number v.memory x (width q))

-- ---- the type of a region

look_miss : (μ : ℕ → ℕ) (t : ℕ → Tree live) (lo : ℕ) (old : ℕ → Tree live) (c r : ℕ) → ((i : ℕ) → i < c → μ (lo + i) ≢ r) → look μ t lo old c r ≡ old r
unfolding look
look_miss μ t lo old zero r h = refl
look_miss μ t lo old (suc c) r h = cond_ne (t (lo + c)) (look μ t lo old c r) (h c (omega arith)) ∙ look_miss μ t lo old c r (λ i l. h i (omega arith))

look_hit : (μ : ℕ → ℕ) (t : ℕ → Tree live) (lo : ℕ) (old : ℕ → Tree live) (c i : ℕ) → i < c → ((j : ℕ) → j < c → j ≢ i → μ (lo + j) ≢ μ (lo + i))
    → look μ t lo old c (μ (lo + i)) ≡ t (lo + i)
unfolding look
look_hit μ t lo old zero i h d = absurd (not-suc-le-zero h)
look_hit μ t lo old (suc c) i h d = go (ℕ_discrete c i) (λ k. look_hit μ t lo old c i k (λ j l. d j (omega arith)))
  where
    go : Dec (c ≡ i) → (i < c → look μ t lo old c (μ (lo + i)) ≡ t (lo + i)) → cond (eqb (μ (lo + c)) (μ (lo + i))) (t (lo + c)) (look μ t lo old c (μ (lo + i))) ≡ t (lo + i)
    go (yes e) _ = cond_eq (t (lo + c)) (look μ t lo old c (μ (lo + i))) (ap (λ (x : ℕ). μ (lo + x)) e) ∙ ap (λ (x : ℕ). t (lo + x)) e
    go (no n) f = cond_ne (t (lo + c)) (look μ t lo old c (μ (lo + i))) (d c (omega arith) n) ∙ f (omega arith)

-- it depends on the frames below n only
pub type_of_agree : (m : Module) (fn gn : ℕ → ℕ) (map nap : ℕ → ℕ → ℕ) (n : ℕ) → ((k : ℕ) → k < n → fn k ≡ gn k) → ((k : ℕ) → k < n → map k ≡ nap k)
    → (r : ℕ) → type_of m fn map n r ≡ type_of m gn nap n r
unfolding type_of
type_of_agree m fn gn map nap zero e d r = refl
type_of_agree m fn gn map nap (suc n) e d r =
    go (e n (omega arith)) (d n (omega arith)) (λ k. type_of_agree m fn gn map nap n (λ i h. e i (omega arith)) (λ i h. d i (omega arith)) k)
  where
    go : fn n ≡ gn n → map n ≡ nap n → ((k : ℕ) → type_of m fn map n k ≡ type_of m gn nap n k) → type_of m fn map (suc n) r ≡ type_of m gn nap (suc n) r
    go p q f = λ i. look (q i) (λ j. close (q i) ((m.function (p i)).region_type j)) (m.function (p i)).region_params (λ k. f k i) (m.function (p i)).locals r

-- the top frame has no say in the type of a region that is not local to it
pub type_of_miss : (m : Module) (fn : ℕ → ℕ) (map : ℕ → ℕ → ℕ) (k r : ℕ) → ¬ Local (m.function (fn k)) (map k) (suc r) → type_of m fn map (suc k) r ≡ type_of m fn map k r
unfolding type_of
type_of_miss m fn map k r n =
    look_miss (map k) (λ i. close (map k) ((m.function (fn k)).region_type i)) (m.function (fn k)).region_params (type_of m fn map k) (m.function (fn k)).locals r
    (λ i h e. n (record { index = i; below = h; is = ap suc e }))

-- more frames, the same live regions
pub live_more : (m : Module) (fn : ℕ → ℕ) (map : ℕ → ℕ → ℕ) (n o x : ℕ) → n ≤ o → Live m fn map n x → Live m fn map o x
live_more m fn map n o x h l = record { frame = l.frame; below = omega (arith, l.below); local = l.local }

-- ---- the rule of a call

-- what it says of caller f, result register a, callee g, regions rs and arguments xs
pub record CallRule (m : Module) (f : Function) (a g : ℕ) (rs : List Variable) (xs : List ℕ) : Type 0 where
  pub known : g < m.functions
  pub scope : (i : ℕ) → i < (m.function g).region_params → (arg rs (region i)).number < regions f
  pub region_types : (i : ℕ) → i < (m.function g).region_params → f.region_type (arg rs (region i)).number ≡ sub (arg rs) ((m.function g).region_type i)
  pub arguments : (i : ℕ) → i < (m.function g).params → f ⊢ argument xs i ∶ sub (arg rs) ((m.function g).register_type i)
  pub result : f ⊢ a ∶ sub (arg rs) (m.function g).result

pub call_rule : {m : Module} {f : Function} {a g : ℕ} {rs : List Variable} {xs : List ℕ} → Typed m f (call a g rs xs) → CallRule m f a g rs xs
call_rule (t_call k s r x t) = record { known = k; scope = s; region_types = r; arguments = x; result = t }

module _ (m : Module) (ok : ModuleOk m) (fn pc : ℕ → ℕ) (map : ℕ → ℕ → ℕ) (n : ℕ) (s : FramesOk m fn pc map n) where
  pub frame_facts : (k : ℕ) → k < n → FunctionFacts m (m.function (fn k))
  frame_facts k h = ok.function (fn k) (s.known k h)

  -- the call at which frame k stands
  pub chain_rule : (k : ℕ) → k < n → (l : Chained m fn pc map k)
      → CallRule m (m.function (fn k)) l.caller.site.result (fn (suc k)) l.caller.site.regions l.caller.site.arguments
  chain_rule k h l =
      subst (λ (g : ℕ). CallRule m (m.function (fn k)) l.caller.site.result g l.caller.site.regions l.caller.site.arguments) l.callee
      (call_rule (rw l.caller.site.is at ((frame_facts k h).typed (pc k) (s.stands k h))))

  -- function 0 has no region parameters
  bottom : 0 < n → (m.function (fn 0)).region_params ≡ 0
  bottom h = ap (λ (g : ℕ). (m.function g).region_params) (s.lowest h) ∙ ok.entry.no_regions

  -- each region in a frame's map is local to that frame or to one below
  pub map_live : (k i : ℕ) → k < n → i < regions (m.function (fn k)) → Live m fn map (suc k) (suc (map k i))
  map_live zero i h l =
      let z = bottom h in
      record { frame = 0; below = omega arith; local = record { index = i; below = omega arith; is = ap (λ (x : ℕ). suc (map 0 x)) (omega arith) } }
  map_live (suc k) i h l = go (dec_lt i (m.function (fn (suc k))).region_params) (λ j. map_live k j (omega arith))
    where
      go : Dec (i < (m.function (fn (suc k))).region_params) → ((j : ℕ) → j < regions (m.function (fn k)) → Live m fn map (suc k) (suc (map k j)))
          → Live m fn map (suc (suc k)) (suc (map (suc k) i))
      go (yes b) f =
          let c = s.chain k h in
          let r = f (arg c.caller.site.regions (region i)).number ((chain_rule k (omega arith) c).scope i b) in
          record { frame = r.frame; below = omega (arith, r.below); local = rw (c.through i b) r.local }
      go (no b) f =
          let j = i - (m.function (fn (suc k))).region_params in
          record { frame = suc k; below = omega arith; local = record { index = j; below = omega arith; is = ap (λ (x : ℕ). suc (map (suc k) x)) (omega arith) } }

  -- so it is below the layout's limit: the test bounds local regions only
  pub map_numbered : (k i : ℕ) → k < n → i < regions (m.function (fn k)) → map k i < live_regions
  map_numbered k i h l =
      let r = map_live k i h l in
      rw (← suc_inj r.local.is) (s.numbered r.frame (omega (arith, r.below)) r.local.index r.local.below)

  -- a local region is in no map below: those regions are live there
  pub fresh_map : (k i c j : ℕ) → k < n → i < (m.function (fn k)).locals → c < k → j < regions (m.function (fn c)) → map c j ≢ map k ((m.function (fn k)).region_params + i)
  fresh_map k i c j h l o b e =
      s.fresh k h i l (rw e at (live_more m fn map (suc c) k (suc (map c j)) o (map_live c j (omega arith) b)))

  -- the type of a local region is what its frame's function says, closed by the frame's map
  local_typed : (l k i : ℕ) → l ≤ n → k < l → i < (m.function (fn k)).locals
      → type_of m fn map l (map k ((m.function (fn k)).region_params + i)) ≡ close (map k) ((m.function (fn k)).region_type ((m.function (fn k)).region_params + i))
  unfolding type_of
  local_typed zero k i a h b = absurd (not-suc-le-zero h)
  local_typed (suc l) k i a h b = go (ℕ_discrete l k) (λ c. local_typed l k i (omega arith) c b)
    where
      r : ℕ
      r = map k ((m.function (fn k)).region_params + i)

      go : Dec (l ≡ k) → (k < l → type_of m fn map l r ≡ close (map k) ((m.function (fn k)).region_type ((m.function (fn k)).region_params + i)))
          → type_of m fn map (suc l) r ≡ close (map k) ((m.function (fn k)).region_type ((m.function (fn k)).region_params + i))
      go (yes e) f =
          rw e (look_hit (map k) (λ j. close (map k) ((m.function (fn k)).region_type j)) (m.function (fn k)).region_params (type_of m fn map k) (m.function (fn k)).locals i b
          (λ j c d. s.different k (omega arith) j c i b d))
      go (no d) f =
          type_of_miss m fn map l r (λ c. fresh_map l c.index k ((m.function (fn k)).region_params + i) (omega arith) c.below (omega arith) (omega arith) (sym (suc_inj c.is))) ∙ f (omega arith)

  -- a type of the callee's region parameters, with the call's regions put in, is closed by the caller's map as it is by the callee's
  pub through_types : (k : ℕ) (l : Chained m fn pc map k) (T : Tree variable) → Uses (m.function (fn (suc k))).region_params T
      → close (map k) (sub (arg l.caller.site.regions) T) ≡ close (map (suc k)) T
  through_types k l T u =
      let rs = l.caller.site.regions in
      close_sub (map k) rs T
      ∙ sym (close_agree (m.function (fn (suc k))).region_params (map (suc k)) (λ i. map k (arg rs (region i)).number) T u l.through)

  -- so is that of each region in a map: types at a call are equal with the regions put in
  pub map_typed : (k i : ℕ) → k < n → i < regions (m.function (fn k)) → type_of m fn map n (map k i) ≡ close (map k) ((m.function (fn k)).region_type i)
  map_typed zero i h l =
      let z = bottom h in
      let e : (m.function (fn 0)).region_params + i ≡ i = omega arith in
      subst (λ (x : ℕ). type_of m fn map n (map 0 x) ≡ close (map 0) ((m.function (fn 0)).region_type x)) e (local_typed n 0 i (omega arith) h (omega arith))
  map_typed (suc k) i h l = go (dec_lt i (m.function (fn (suc k))).region_params) (λ j. map_typed k j (omega arith))
    where
      go : Dec (i < (m.function (fn (suc k))).region_params)
          → ((j : ℕ) → j < regions (m.function (fn k)) → type_of m fn map n (map k j) ≡ close (map k) ((m.function (fn k)).region_type j))
          → type_of m fn map n (map (suc k) i) ≡ close (map (suc k)) ((m.function (fn (suc k))).region_type i)
      go (yes b) f =
          let c = s.chain k h in
          let d = chain_rule k (omega arith) c in
          let rs = c.caller.site.regions in
          let T : Tree variable = (m.function (fn (suc k))).region_type i in
          ap (type_of m fn map n) (c.through i b) ∙ f (arg rs (region i)).number (d.scope i b) ∙ ap (close (map k)) (d.region_types i b)
          ∙ through_types k c T ((frame_facts (suc k) h).region_param_scope i b)
      go (no b) f =
          let p : ℕ = (m.function (fn (suc k))).region_params in
          let e : p + (i - p) ≡ i = omega arith in
          subst (λ (x : ℕ). type_of m fn map n (map (suc k) x) ≡ close (map (suc k)) ((m.function (fn (suc k))).region_type x)) e (local_typed n (suc k) (i - p) (omega arith) h (omega arith))

  -- a primitive of a live region's type points into the map of the frame to which the region is local
  pub outer_page : (P : ℕ → Type 0) (r d : ℕ) (q : Tree live) (l : Live m fn map n (suc r)) → ((j : ℕ) → j < regions (m.function (fn l.frame)) → P (map l.frame j))
      → Has (flat m (type_of m fn map n r)).prims d q → Outer P q
  outer_page P r d q l f h =
      let k : ℕ = l.frame in
      let g : Function = m.function (fn l.frame) in
      let i : ℕ = g.region_params + l.local.index in
      let inside : i < regions g = omega (arith, l.local.below) in
      let known : fn k < m.functions = s.known k l.below in
      let e : type_of m fn map n r ≡ close (map k) (g.region_type i) = ap (type_of m fn map n) (sym (suc_inj l.local.is)) ∙ map_typed k i l.below inside in
      let c = has_close_region (map k) m ok.types (g.region_type i) (ok.types.region_types (fn k) i known inside) (regions g) d q ((ok.function (fn k) known).region_scope i inside)
      (subst (λ (T : Tree live). Has (flat m T).prims d q) e h) in
      rw c.2 (outer_close P (map k) (regions g) c.0 c.1 f)

-- ---- live is in the list

in_local : (μ : ℕ → ℕ) (lo c i : ℕ) → i < c → In (μ (lo + i)) (local_list μ lo c)
unfolding local_list
in_local μ lo zero i h = absurd (not-suc-le-zero h)
in_local μ lo (suc c) i h = go (ℕ_discrete i c) (λ k. in_local μ lo c i k)
  where
    go : Dec (i ≡ c) → (i < c → In (μ (lo + i)) (local_list μ lo c)) → In (μ (lo + i)) (μ (lo + c) ∷ local_list μ lo c)
    go (yes e) f = rw e (in_head (μ (lo + c)) (local_list μ lo c))
    go (no n) f = in_tail (μ (lo + i)) (μ (lo + c)) (local_list μ lo c) (f (omega arith))

pub live_in : (m : Module) (fn : ℕ → ℕ) (map : ℕ → ℕ → ℕ) (n r : ℕ) → Live m fn map n (suc r) → In r (live_list m fn map n)
unfolding live_list
live_in m fn map zero r l = absurd (not-suc-le-zero l.below)
live_in m fn map (suc n) r l = go (ℕ_discrete l.frame n) (λ k. live_in m fn map n r k)
  where
    top : List ℕ
    top = local_list (map n) (m.function (fn n)).region_params (m.function (fn n)).locals

    go : Dec (l.frame ≡ n) → (Live m fn map n (suc r) → In r (live_list m fn map n))
        → In r (local_list (map n) (m.function (fn n)).region_params (m.function (fn n)).locals ++ live_list m fn map n)
    go (yes e) f =
        let c : Local (m.function (fn n)) (map n) (suc r) = rw e at l.local in
        in_left r top (live_list m fn map n)
        (subst (λ (x : ℕ). In x (local_list (map n) (m.function (fn n)).region_params (m.function (fn n)).locals)) (suc_inj c.is)
        (in_local (map n) (m.function (fn n)).region_params (m.function (fn n)).locals c.index c.below))
    go (no e) f = in_right r top (live_list m fn map n) (f (record { frame = l.frame; below = omega (arith, l.below); local = l.local }))

-- n frames have at most 7 n live regions
pub live_length : (m : Module) → ModuleOk m → (fn : ℕ → ℕ) (map : ℕ → ℕ → ℕ) (n : ℕ) → ((k : ℕ) → k < n → fn k < m.functions) → length (live_list m fn map n) ≤ 7 * n
unfolding live_list
live_length m ok fn map zero h = omega arith
live_length m ok fn map (suc n) h =
    let f : Function = m.function (fn n) in
    let l = local_list (map n) f.region_params f.locals in
    let r = live_list m fn map n in
    let a : length (l ++ r) ≡ length l + length r = length-append l r in
    let b : length l ≡ f.locals = length_local_list (map n) f.region_params f.locals in
    let c : length r ≤ 7 * n = live_length m ok fn map n (λ k d. h k (omega arith)) in
    omega (arith, a, b, c, (ok.function (fn n) (h n (omega arith))).ranges.regions)
