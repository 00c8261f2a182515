-- The primitive at a position, as the code finds it: through arrays, structs and fields, a substitution carried along.
-- Assumes nothing.
use Rattle.std.specs.Prelude.{◌≡◌, cond, ℕ, zero, suc, ◌+◌, ◌-◌, ◌*◌, ◌/◌, ◌%◌, ◌≤◌, ◌<◌, ltb, length, get_or, [], ◌∷◌}
use Rattle.std.proofs.Math.Path.{refl, ap}
use Rattle.std.proofs.Common.{sym, ◌∙◌, subst, ⊎_elim, add-zero, mul-le-mul_right, div-lt_iff_lt-mul, div-add-mod', mod-lt, arith}
use Rattle.std.proofs.Math.ListN.{get_or-eq_default}
use Rattle.words.specs.Bytes.{Bytes}
use Rattle.words.specs.ByteLaws.{get_d_list_of, list_of_past}
use Rattle.words.specs.Choose.{cond_lt, cond_nlt, lt_or_le}
use Rattle.rules.specs.Types.{RegionKind, variable, Region, Variable, region, sub, arg, nowhere}
use Rattle.rules.specs.Flat.{Placed, at, off, Layout, count, single, moved, packed, beside, copies_of, placed_in, sub_layout, flat_with, fields_with, layouts}
use Rattle.rules.specs.Decode.{module_of}
use Rattle.layout.specs.Types.{sub_sub}
use Rattle.layout.specs.Prims.{nth, moved_moved, placed_moved, count_packed, count_copies_of, size_copies_of, beside_sized, beside_none, copies_sized, copies_fit, sub_layout_size, count_sub}
use Rattle.layout.specs.Runs.{nth_left, nth_right, nth_copies as nth-copy, nth_sub}
use Rattle.terms.specs.declared.Head.{Head}
use Rattle.terms.specs.declared.Head.TheVariants.{Int, Ptr, Arr, Struct, Untyped}
use Rattle.terms.specs.Heads.{digit, args_of, tree_at, head_of, grow}
use Rattle.terms.specs.HeadLaws.{tree_step}
use Rattle.terms.specs.Extents.{Terms, field_place, field_count, firsts}
use Rattle.terms.specs.ExtentLaws.{fields_firsts, module_fields}
use Rattle.terms.specs.Compare.{byte_under, under, under_is, sub_same, get_d_any}
use Rattle.positions.specs.Table.{NoStruct, term_layout, struct_layout, own_byte}
use Rattle.positions.specs.TableLaws.{layout_at, layout_arr}
use Rattle.positions.specs.declared.Primitive.{Primitive}

-- ---- substitutions

-- nowhere stays nowhere: so of every list of at most 255 bytes
abbrev pub Keeps : Bytes → Type 0
Keeps to = byte_under to nowhere ≡ nowhere

-- the same region for every variable
abbrev pub Agree : Bytes → Bytes → Type 0
Agree p q = (v : ℕ) → byte_under p v ≡ byte_under q v

-- what a struct term's arguments, under a substitution, put for variable v
unfoldable pub arg_byte : Bytes → ℕ → ℕ → ℕ → ℕ
arg_byte to d c v = cond (ltb v c) (byte_under to (digit d v)) nowhere

pub arg_in : (to : Bytes) (d c v : ℕ) → v < c → arg_byte to d c v ≡ byte_under to (digit d v)
unfolding arg_byte
arg_in to d c v h = cond_lt _ _ h

pub arg_out : (to : Bytes) (d c v : ℕ) → c ≤ v → arg_byte to d c v ≡ nowhere
unfolding arg_byte
arg_out to d c v h = cond_nlt _ _ h

pub own_in : (d c v : ℕ) → v < c → own_byte d c v ≡ digit d v
unfolding own_byte
own_in d c v h = cond_lt _ _ h

pub own_out : (d c v : ℕ) → c ≤ v → own_byte d c v ≡ nowhere
unfolding own_byte
own_out d c v h = cond_nlt _ _ h

-- arguments held are the arguments
pub own_args : (to : Bytes) (d c : ℕ) → ((v : ℕ) → byte_under to v ≡ own_byte d c v) → (v : Variable) → arg (args_of d c) v ≡ under {k = variable} to v
unfolding args_of
own_args to d c h v = ⊎_elim
    (λ l. get_d_list_of (λ j. region (digit d j)) c v.number (region nowhere) l ∙ ap region (sym (h v.number ∙ own_in d c v.number l)) ∙ sym (under_is to v))
    (λ l. list_of_past (λ j. region (digit d j)) c v.number (region nowhere) l ∙ ap region (sym (h v.number ∙ own_out d c v.number l)) ∙ sym (under_is to v))
    (lt_or_le v.number c)

pub keeps_own : (to : Bytes) (d c : ℕ) → c ≤ 4 → ((v : ℕ) → byte_under to v ≡ own_byte d c v) → Keeps to
keeps_own to d c l h = h nowhere ∙ own_out d c nowhere (omega arith)

-- arguments put in, then the substitution, is the substitution of the arguments
pub under_args : {k : RegionKind} (to inside : Bytes) (d c : ℕ) → Keeps to → ((v : ℕ) → byte_under inside v ≡ arg_byte to d c v) → (v : Variable) → under {k = k} to (arg (args_of d c) v) ≡ under inside v
unfolding args_of
under_args {k} to inside d c keeps h v = ⊎_elim
    (λ l.
    ap (under to) (get_d_list_of (λ j. region (digit d j)) c v.number (region nowhere) l) ∙ under_is to (region (digit d v.number))
    ∙ ap region (sym (h v.number ∙ arg_in to d c v.number l)) ∙ sym (under_is inside v))
    (λ l.
    ap (under to) (list_of_past (λ j. region (digit d j)) c v.number (region nowhere) l)
    ∙ under_is to (region nowhere) ∙ ap region (keeps ∙ sym (h v.number ∙ arg_out to d c v.number l)) ∙ sym (under_is inside v))
    (lt_or_le v.number c)

pub keeps_args : (to inside : Bytes) (d c : ℕ) → c ≤ 4 → ((v : ℕ) → byte_under inside v ≡ arg_byte to d c v) → Keeps inside
keeps_args to inside d c l h = h nowhere ∙ arg_out to d c nowhere (omega arith)

pub under_agree : {k : RegionKind} (p q : Bytes) → Agree p q → (v : Variable) → under {k = k} p v ≡ under q v
under_agree p q h v = under_is p v ∙ ap region (h v.number) ∙ sym (under_is q v)

-- ---- what the code finds

-- a primitive as the code has it
abbrev pub placed_of : (k : RegionKind) → Bytes → Primitive → Placed k
placed_of k f r = at r.off (sub (under r.to) (tree_at f r.place))

-- r is P under the substitution, off bytes further
abbrev pub Found : Bytes → Primitive → Bytes → ℕ → Placed variable → Type 0
Found f r to off P = (k : RegionKind) → placed_of k f r ≡ moved off (placed_in (under to) P)

-- an array's primitives are its element's, shifted
module _ {k : RegionKind} (n : ℕ) (L : Layout k) (i : ℕ) (some : 0 < count L) (inside : i < n * count L) where
  pub copy_before : i / count L < n
  copy_before = (div-lt_iff_lt-mul some).1 inside

  pub copy_inside : i % count L < count L
  copy_inside = mod-lt i some

  pub nth_copies : nth (copies_of n L) i ≡ moved (i / count L * L.size) (nth L (i % count L))
  nth_copies = ap (λ (x : ℕ). nth (copies_of n L) x) (sym (div-add-mod' i (count L))) ∙ nth-copy n L (i / count L) (i % count L) copy_before copy_inside

pub placed_placed : {i j k : RegionKind} (σ : Region j → Region k) (τ : Region i → Region j) (ρ : Region i → Region k) → ((v : Region i) → σ (τ v) ≡ ρ v) → (P : Placed i) → placed_in σ (placed_in τ P) ≡ placed_in ρ P
placed_placed {k = k} σ τ ρ h (at d T) = ap {B = Placed k} (at d) (sub_sub σ τ T ∙ sub_same (λ v. σ (τ v)) ρ h T)

-- ---- by the head

module _ (f : Bytes) (k p off i : ℕ) (to : Bytes) where
  -- an integer or a pointer is itself
  module _ (w : ℕ) (is : term_layout f k p ≡ single w (tree_at f p)) (inside : i < count (term_layout f k p)) where
    pub found_single : Found f (record { off = off; place = p; to = to }) to off (nth (term_layout f k p) i)
    found_single j =
        let z : i ≡ 0 = omega (arith, inside, ap (λ (L : Layout variable). count L) is) in
        rw (is, z) (ap {B = Placed j} (λ (x : ℕ). at x (sub (under to) (tree_at f p))) (sym (add-zero off)))

  pub single_int : (w : ℕ) → head_of f p ≡ Int w → term_layout f k p ≡ single w (tree_at f p)
  unfolding grow flat_with
  single_int w e = layout_at f k p (Int w) e ∙ ap (single w) (sym (tree_step f p ∙ ap (grow (tree_at f)) e))

  pub single_ptr : (a r : ℕ) → head_of f p ≡ Ptr a r → term_layout f k p ≡ single 4 (tree_at f p)
  unfolding grow flat_with
  single_ptr a r e = layout_at f k p (Ptr a r) e ∙ ap (single 4) (sym (tree_step f p ∙ ap (grow (tree_at f)) e))

  pub single_untyped : (n r : ℕ) → head_of f p ≡ Untyped n r → term_layout f k p ≡ single 4 (tree_at f p)
  unfolding grow flat_with
  single_untyped n r e = layout_at f k p (Untyped n r) e ∙ ap (single 4) (sym (tree_step f p ∙ ap (grow (tree_at f)) e))

  -- what is no array and no struct
  pub single_other : (h : Head) → head_of f p ≡ h → NoStruct h → ((n a : ℕ) → h ≡ Arr n a → ⊥) → (w : ℕ) × (term_layout f k p ≡ single w (tree_at f p))
  single_other (Int w) e s o = (w, single_int w e)
  single_other (Ptr a r) e s o = (4, single_ptr a r e)
  single_other (Arr n a) e s o = absurd (o n a refl)
  single_other (Struct N n d) e s o = absurd s
  single_other (Untyped n r) e s o = (4, single_untyped n r e)

  -- a struct, whatever led to it
  module _ (N c d : ℕ) (is : term_layout f k p ≡ sub_layout (arg (args_of d c)) (struct_layout f N)) where
    pub struct_size_law : (struct_layout f N).size ≡ (term_layout f k p).size
    struct_size_law = sym (sub_layout_size (arg (args_of d c)) (struct_layout f N)) ∙ ap (λ (L : Layout variable). L.size) (sym is)

    pub struct_count : count (struct_layout f N) ≡ count (term_layout f k p)
    struct_count = sym (count_sub (arg (args_of d c)) (struct_layout f N)) ∙ ap (λ (L : Layout variable). count L) (sym is)

    pub found_struct : (inside : Bytes) → Keeps to → ((v : ℕ) → byte_under inside v ≡ arg_byte to d c v) → (r : Primitive) → Found f r inside off (nth (struct_layout f N) i) → Found f r to off (nth (term_layout f k p) i)
    found_struct inside keeps h r found j =
        found j
        ∙ ap (moved off) (sym (ap (λ (L : Layout variable). placed_in (under {k = j} to) (nth L i)) is ∙ ap (placed_in (under to)) (nth_sub (arg (args_of d c)) (struct_layout f N) i)
        ∙ placed_placed (under to) (arg (args_of d c)) (under inside) (under_args to inside d c keeps h) (nth (struct_layout f N) i)))

  module _ (c a : ℕ) (e : head_of f p ≡ Arr c a) (fits : off + (term_layout f k p).size ≤ 256) (inside : i < count (term_layout f k p)) where
    arr_size : c * (term_layout f k a).size ≤ 256
    arr_size = copies_fit c (term_layout f k a) (subst (λ (L : Layout variable). L.size ≤ 256) (layout_arr f k p c a e) (omega arith))

    pub arr_layout : term_layout f k p ≡ copies_of c (term_layout f k a)
    arr_layout = layout_arr f k p c a e ∙ copies_sized c (term_layout f k a) arr_size

    arr_count : i < c * count (term_layout f k a)
    arr_count = omega (arith, inside, ap (λ (L : Layout variable). count L) arr_layout, count_copies_of c (term_layout f k a))

    pub arr_some : 0 < c
    arr_some = ⊎_elim (λ l. l) (λ l. absurd (let z : c ≡ 0 = omega arith in let w : i < 0 * count (term_layout f k a) = rw z at arr_count in omega arith)) (lt_or_le 0 c)

    pub element_fits : (term_layout f k a).size ≤ 256
    element_fits =
        let m : 1 * (term_layout f k a).size ≤ c * (term_layout f k a).size = mul-le-mul_right (term_layout f k a).size arr_some in
        let s = arr_size in omega arith

    pub element_some : count (term_layout f k a) ≡ 0 → ⊥
    element_some z = let w : i < c * 0 = subst (λ (x : ℕ). i < c * x) z arr_count in omega arith

    -- the extent of the element, and what is found in it
    module _ (cnt sz : ℕ) (is-count : cnt ≡ count (term_layout f k a)) (is-size : sz ≡ (term_layout f k a).size) where
      some_element : 0 < count (term_layout f k a)
      some_element = ⊎_elim (λ l. l) (λ l. absurd (element_some (omega arith))) (lt_or_le 0 (count (term_layout f k a)))

      pub element_inside : i % cnt < count (term_layout f k a)
      element_inside = rw is-count (copy_inside c (term_layout f k a) i some_element arr_count)

      pub element_room : off + i / cnt * sz + (term_layout f k a).size ≤ 256
      element_room =
          let z = copy_before c (term_layout f k a) i some_element arr_count in
          let m : suc (i / count (term_layout f k a)) * (term_layout f k a).size ≤ c * (term_layout f k a).size = mul-le-mul_right (term_layout f k a).size z in
          let w = ap (λ (L : Layout variable). L.size) arr_layout in
          rw (is-count, is-size) (omega (arith, m, w, size_copies_of c (term_layout f k a), fits))

      pub offset_le : off + i / cnt * sz ≤ 256
      offset_le = let z = element_room in omega arith

      pub found_arr : (r : Primitive) → Found f r to (off + i / cnt * sz) (nth (term_layout f k a) (i % cnt)) → Found f r to off (nth (term_layout f k p) i)
      found_arr r found j =
          let x : ℕ = i / count (term_layout f k a) * (term_layout f k a).size in
          let P : Placed variable = nth (term_layout f k a) (i % count (term_layout f k a)) in
          let here : nth (term_layout f k p) i ≡ moved x P = ap (λ (L : Layout variable). nth L i) arr_layout ∙ nth_copies c (term_layout f k a) i some_element arr_count in
          let given : placed_of j f r ≡ moved (off + x) (placed_in (under to) P) = rw (is-count, is-size) at (found j) in
          given ∙ sym (moved_moved off x (placed_in (under {k = j} to) P)) ∙ ap (moved off) (sym (placed_moved (under {k = j} to) x P)) ∙ ap (λ (Q : Placed variable). moved off (placed_in (under {k = j} to) Q)) (sym here)

-- ---- field by field

module _ (f : Bytes) (n N : ℕ) where
  -- the layout of the first j fields, and field j
  abbrev pub before : ℕ → Layout variable
  before j = firsts (layouts (module_of f) N) (λ i. tree_at f (field_place f n N i)) j

  abbrev pub field : ℕ → Layout variable
  field j = term_layout f N (field_place f n N j)

  pub struct_fields : Terms f n → struct_layout f N ≡ before (field_count f n N)
  unfolding struct_layout
  struct_fields is =
      ap (fields_with (layouts (module_of f) N)) (module_fields f n is N)
      ∙ fields_firsts (layouts (module_of f) N) (λ i. tree_at f (field_place f n N i)) (field_count f n N)

  before_more : (j : ℕ) → before (suc j) ≡ beside (before j) (field j)
  unfolding firsts term_layout
  before_more j = refl

  more_fits : (j : ℕ) → (before (suc j)).size ≤ 256 → (before j).size + (field j).size ≤ 256
  more_fits j h = ⊎_elim
      (λ l. absurd (omega (arith, h, ap (λ (L : Layout variable). L.size) (before_more j ∙ beside_none (before j) (field j) l))))
      (λ l. l)
      (lt_or_le 256 ((before j).size + (field j).size))

  pub more_packed : (j : ℕ) → (before (suc j)).size ≤ 256 → before (suc j) ≡ packed (before j) (field j)
  more_packed j h = before_more j ∙ beside_sized (before j) (field j) (more_fits j h)

  pub fits_below : (j c : ℕ) → j ≤ c → (before c).size ≤ 256 → (before j).size ≤ 256
  fits_below j zero l h = let e : j ≡ 0 = omega arith in rw e h
  fits_below j (suc c) l h = ⊎_elim
      (λ m. fits_below j c (omega arith) (let s = more_fits c h in omega arith))
      (λ m. let e : j ≡ suc c = omega arith in rw e h)
      (lt_or_le j (suc c))

  pub count_below : (j c : ℕ) → j ≤ c → (before c).size ≤ 256 → count (before j) ≤ count (before c)
  count_below j zero l h = let e : j ≡ 0 = omega arith in rw e (omega arith)
  count_below j (suc c) l h = ⊎_elim
      (λ m.
      let s = more_fits c h in
      omega (arith, count_below j c (omega arith) (omega arith), ap (λ (L : Layout variable). count L) (more_packed c h), count_packed (before c) (field c)))
      (λ m. let e : j ≡ suc c = omega arith in rw e (omega arith))
      (lt_or_le j (suc c))

  pub size_below : (j c : ℕ) → j ≤ c → (before c).size ≤ 256 → (before j).size ≤ (before c).size
  size_below j zero l h = let e : j ≡ 0 = omega arith in rw e (omega arith)
  size_below j (suc c) l h = ⊎_elim
      (λ m. let s = more_fits c h in omega (arith, size_below j c (omega arith) (omega arith), ap (λ (L : Layout variable). L.size) (more_packed c h)))
      (λ m. let e : j ≡ suc c = omega arith in rw e (omega arith))
      (lt_or_le j (suc c))

  nth_below : (j c i : ℕ) → j ≤ c → (before c).size ≤ 256 → i < count (before j) → nth (before c) i ≡ nth (before j) i
  nth_below j zero i l h m = let e : j ≡ 0 = omega arith in rw e
  nth_below j (suc c) i l h m = ⊎_elim
      (λ w.
      let s = more_fits c h in
      ap (λ (L : Layout variable). nth L i) (more_packed c h)
      ∙ nth_left (before c) (field c) i (omega (arith, m, count_below j c (omega arith) (omega arith)))
      ∙ nth_below j c i (omega arith) (omega arith) m)
      (λ w. let e : j ≡ suc c = omega arith in rw e)
      (lt_or_le j (suc c))

  module _ (is : Terms f n) (off i : ℕ) (fits : off + (struct_layout f N).size ≤ 256) (inside : i < count (struct_layout f N)) where
    all_fit : (before (field_count f n N)).size ≤ 256
    all_fit = omega (arith, fits, ap (λ (L : Layout variable). L.size) (struct_fields is))

    -- no field is left, and yet the primitive was not among them
    pub fields_end : (j cnt : ℕ) → field_count f n N ≡ j → cnt ≡ count (before j) → cnt ≤ i → ⊥
    fields_end j cnt e q l = let w : cnt ≡ count (struct_layout f N) = q ∙ ap (λ (x : ℕ). count (before x)) (sym e) ∙ ap (λ (L : Layout variable). count L) (sym (struct_fields is)) in omega arith

    module _ (j sz cnt : ℕ) (less : j < field_count f n N) (is-size : sz ≡ (before j).size) (is-count : cnt ≡ count (before j)) where
      here_fits : (before (suc j)).size ≤ 256
      here_fits = fits_below (suc j) (field_count f n N) less all_fit

      pub field_fits : (field j).size ≤ 256
      field_fits = let s = more_fits j here_fits in omega arith

      -- one field more
      pub size_next : sz + (field j).size ≡ (before (suc j)).size
      size_next = omega (arith, is-size, ap (λ (L : Layout variable). L.size) (more_packed j here_fits))

      pub count_next : cnt + count (field j) ≡ count (before (suc j))
      count_next = omega (arith, is-count, ap (λ (L : Layout variable). count L) (more_packed j here_fits), count_packed (before j) (field j))

      pub sums_small : sz + (field j).size ≤ 256
      sums_small = let s = here_fits in omega (arith, size_next)

      module _ (after : cnt ≤ i) (here : i < cnt + count (field j)) where
        pub field_inside : i - cnt < count (field j)
        field_inside = omega arith

        pub in_field : off + sz + (field j).size ≤ 256
        in_field = omega (arith, fits, size_below (suc j) (field_count f n N) less all_fit, ap (λ (L : Layout variable). L.size) (struct_fields is), size_next)

        pub found_field : (r : Primitive) (to : Bytes) → Found f r to (off + sz) (nth (field j) (i - cnt)) → Found f r to off (nth (struct_layout f N) i)
        found_field r to found k =
            let P : Placed variable = nth (field j) (i - cnt) in
            let e : count (before j) + (i - cnt) ≡ i = omega arith in
            let place : nth (struct_layout f N) i ≡ moved sz P =
            ap (λ (L : Layout variable). nth L i) (struct_fields is) ∙ nth_below (suc j) (field_count f n N) i less all_fit (omega (arith, count_next))
            ∙ ap (λ (L : Layout variable). nth L i) (more_packed j here_fits) ∙ ap (λ (x : ℕ). nth (packed (before j) (field j)) x) (sym e)
            ∙ nth_right (before j) (field j) (i - cnt) (omega arith) ∙ ap (λ (x : ℕ). moved x P) (sym is-size) in
            found k ∙ sym (moved_moved off sz (placed_in (under {k = k} to) P)) ∙ ap (moved off) (sym (placed_moved (under {k = k} to) sz P)) ∙ ap (λ (Q : Placed variable). moved off (placed_in (under {k = k} to) Q)) (sym place)

-- ---- four and eight bytes held

pub four : (g : ℕ → ℕ) (a0 a1 a2 a3 : ℕ) → a0 ≡ g 0 → a1 ≡ g 1 → a2 ≡ g 2 → a3 ≡ g 3 → ((v : ℕ) → 4 ≤ v → g v ≡ nowhere) → (v : ℕ) → get_or (a0 ∷ a1 ∷ a2 ∷ a3 ∷ []) v nowhere ≡ g v
four g a0 a1 a2 a3 p0 p1 p2 p3 h zero = p0
four g a0 a1 a2 a3 p0 p1 p2 p3 h (suc zero) = p1
four g a0 a1 a2 a3 p0 p1 p2 p3 h (suc (suc zero)) = p2
four g a0 a1 a2 a3 p0 p1 p2 p3 h (suc (suc (suc zero))) = p3
four g a0 a1 a2 a3 p0 p1 p2 p3 h (suc (suc (suc (suc v)))) = sym (h (suc (suc (suc (suc v)))) (omega arith))

pub eight : (g : ℕ → ℕ) (a0 a1 a2 a3 a4 a5 a6 a7 : ℕ) → a0 ≡ g 0 → a1 ≡ g 1 → a2 ≡ g 2 → a3 ≡ g 3 → a4 ≡ g 4 → a5 ≡ g 5 → a6 ≡ g 6 → a7 ≡ g 7
    → ((v : ℕ) → 8 ≤ v → g v ≡ nowhere) → (v : ℕ) → get_or (a0 ∷ a1 ∷ a2 ∷ a3 ∷ a4 ∷ a5 ∷ a6 ∷ a7 ∷ []) v nowhere ≡ g v
eight g a0 a1 a2 a3 a4 a5 a6 a7 p0 p1 p2 p3 p4 p5 p6 p7 h zero = p0
eight g a0 a1 a2 a3 a4 a5 a6 a7 p0 p1 p2 p3 p4 p5 p6 p7 h (suc zero) = p1
eight g a0 a1 a2 a3 a4 a5 a6 a7 p0 p1 p2 p3 p4 p5 p6 p7 h (suc (suc zero)) = p2
eight g a0 a1 a2 a3 a4 a5 a6 a7 p0 p1 p2 p3 p4 p5 p6 p7 h (suc (suc (suc zero))) = p3
eight g a0 a1 a2 a3 a4 a5 a6 a7 p0 p1 p2 p3 p4 p5 p6 p7 h (suc (suc (suc (suc zero)))) = p4
eight g a0 a1 a2 a3 a4 a5 a6 a7 p0 p1 p2 p3 p4 p5 p6 p7 h (suc (suc (suc (suc (suc zero))))) = p5
eight g a0 a1 a2 a3 a4 a5 a6 a7 p0 p1 p2 p3 p4 p5 p6 p7 h (suc (suc (suc (suc (suc (suc zero)))))) = p6
eight g a0 a1 a2 a3 a4 a5 a6 a7 p0 p1 p2 p3 p4 p5 p6 p7 h (suc (suc (suc (suc (suc (suc (suc zero))))))) = p7
eight g a0 a1 a2 a3 a4 a5 a6 a7 p0 p1 p2 p3 p4 p5 p6 p7 h (suc (suc (suc (suc (suc (suc (suc (suc v)))))))) =
    sym (h (suc (suc (suc (suc (suc (suc (suc (suc v)))))))) (omega arith))

pub keeps_held : (r to : Bytes) → length to ≤ 8 → Agree r to → Keeps r
keeps_held r to l h = h nowhere ∙ get_or-eq_default to nowhere (omega arith)

-- four bytes as one number
pub joined_bytes : (to : Bytes) (a0 a1 a2 a3 : ℕ) → length to ≡ 4 → (a0 ≡ get_or to 0 0) × (a0 < 256) → (a1 ≡ get_or to 1 0) × (a1 < 256) → (a2 ≡ get_or to 2 0) × (a2 < 256) → (a3 ≡ get_or to 3 0) × (a3 < 256)
    → (v : ℕ) → byte_under to v ≡ own_byte (a0 + 256 * a1 + 65536 * a2 + 16777216 * a3) 4 v
joined_bytes to a0 a1 a2 a3 l p0 p1 p2 p3 = go
  where
    d : ℕ
    d = a0 + 256 * a1 + 65536 * a2 + 16777216 * a3

    byte : (v x : ℕ) → v < 4 → x ≡ get_or to v 0 → digit d v ≡ x → byte_under to v ≡ own_byte d 4 v
    byte v x h e q = get_d_any to v nowhere 0 (omega arith) ∙ sym e ∙ sym q ∙ sym (own_in d 4 v h)

    go : (v : ℕ) → byte_under to v ≡ own_byte d 4 v
    go zero = byte 0 a0 (omega arith) p0.0 (omega (arith, p0.1))
    go (suc zero) = byte 1 a1 (omega arith) p1.0 (omega (arith, p0.1, p1.1))
    go (suc (suc zero)) = byte 2 a2 (omega arith) p2.0 (omega (arith, p0.1, p1.1, p2.1))
    go (suc (suc (suc zero))) = byte 3 a3 (omega arith) p3.0 (omega (arith, p0.1, p1.1, p2.1, p3.1))
    go (suc (suc (suc (suc v)))) = get_or-eq_default to nowhere {n = suc (suc (suc (suc v)))} (omega arith) ∙ sym (own_out d 4 (suc (suc (suc (suc v)))) (omega arith))
