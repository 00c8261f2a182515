-- Terms written out: an entry, one layout after another, copies and fields. Assumes nothing.
use Rattle.std.specs.Prelude.{◌≡◌, List, Option, Some, None, ℕ, suc, ◌+◌, ◌-◌, ◌*◌, ◌≤◌, ◌<◌, length, get_or, set, replicate, ◌≢◌, [], ◌∷◌, zero}
use Rattle.std.proofs.Math.Path.{refl, ap}
use Rattle.std.proofs.Common.{sym, ◌∙◌, subst, ⊎_elim, add_comm, mul-le-mul_right, arith, length-set, get_or-set_same, get_or-set_other}
use Rattle.std.proofs.Math.Decide.{ℕ_discrete}
use Rattle.std.proofs.Math.ListN.{get_or-eq_default}
use Rattle.std.proofs.lemmas.List.{length-replicate, get_or-replicate}
use Rattle.words.specs.Bytes.{Bytes}
use Rattle.words.specs.Choose.{lt_or_le}
use Rattle.rules.specs.Types.{RegionKind, variable, int, sub, arg, nowhere}
use Rattle.rules.specs.Flat.{Placed, at as placed, Layout, count, single, moved, packed, copies_of, placed_in, sub_layout}
use Rattle.layout.specs.Prims.{nth, moved_moved, placed_moved, count_packed, count_copies_of, size_copies_of}
use Rattle.layout.specs.Runs.{nth_left, nth_right, nth_copies as nth-copy}
use Rattle.terms.specs.Compare.{byte_under, under, sub_same}
use Rattle.terms.specs.Extents.{Terms, field_count}
use Rattle.terms.specs.Heads.{args_of, tree_at, head_of, grow}
use Rattle.terms.specs.HeadLaws.{tree_step}
use Rattle.terms.specs.declared.Head.TheVariants.{Int}
use Rattle.positions.specs.Table.{term_layout, struct_layout}
use Rattle.positions.specs.Positions.{Keeps, Agree, under_agree, arg_byte, Found, found_single, single_int, found_struct, struct_size_law, struct_count, nth_copies, before, field, struct_fields, more_packed, fits_below, count_below, size_below}
use Rattle.positions.specs.declared.Primitive.{Primitive}
use Rattle.flattening.specs.declared.Seen.{Seen}
use Rattle.flattening.specs.Written.{entry_of, Room, Written, Kept, Shifted, PastOf, Past}

-- ---- entries

pub room_fresh : (r : Primitive) → Room (replicate 256 r)
room_fresh r = record { are = length-replicate {A = Primitive} 256 r }

module _ {entries : List Primitive} (room : Room entries) (at : ℕ) (r : Primitive) (h : at < 256) where
  pub entry_put : entry_of (set entries at r) at ≡ r
  entry_put = get_or-set_same entries at r _ (omega (arith, room.are))

  pub kept_put : Kept entries (set entries at r) at
  kept_put = record {
    room = record { are = length-set entries at r ∙ room.are };
    below = λ j m. get_or-set_other entries at j r _ (λ e. omega arith);
  }

  pub others_put : (j : ℕ) → at ≢ j → entry_of (set entries at r) j ≡ entry_of entries j
  others_put j d = get_or-set_other entries at j r _ (λ e. d (sym e))

  pub put_memo : {entries' : List Primitive} → entries' ≡ set entries at r → (j : ℕ) → 256 ≤ j → entry_of entries' j ≡ entry_of entries j
  put_memo e j m = rw e (others_put j (λ z. omega arith))

-- an integer or a pointer is one entry
module _ {entries : List Primitive} (room : Room entries) (at place : ℕ) (to : Bytes) (off : ℕ) (h : at < 256) where
  abbrev one : Primitive
  one = record { off = off; place = place; to = to }

  written_put : (f : Bytes) (k w : ℕ) → place ≤ 256 → term_layout f k place ≡ single w (tree_at f place) → Written f (set entries at one) at to off (term_layout f k place)
  written_put f k w low is = record {
    each = λ i m.
        let e : at + i ≡ at = omega (arith, m, ap (λ (L : Layout variable). count L) is) in
        subst (λ (r : Primitive). Found f r to off (nth (term_layout f k place) i)) (sym (ap (entry_of (set entries at one)) e ∙ entry_put room at one h)) (found_single f k place off i to w is m);
    near = λ i m.
        let e : at + i ≡ at = omega (arith, m, ap (λ (L : Layout variable). count L) is) in
        subst (λ (r : Primitive). (r.off ≤ off + (term_layout f k place).size) × (r.place ≤ 256)) (sym (ap (entry_of (set entries at one)) e ∙ entry_put room at one h)) (omega arith, low);
  }

  pub put_single : (f : Bytes) (k w : ℕ) → place ≤ 256 → term_layout f k place ≡ single w (tree_at f place)
      → (Written f (set entries at one) at to off (term_layout f k place)) × (Kept entries (set entries at one) at)
  put_single f k w low is = (written_put f k w low is, kept_put room at one h)

-- an integer is the same under every substitution
pub written_int : {f : Bytes} {entries : List Primitive} {at : ℕ} {to to' : Bytes} {off : ℕ} (k p w : ℕ) → head_of f p ≡ Int w → Written f entries at to off (term_layout f k p) → Written f entries at to' off (term_layout f k p)
written_int {f} {to = to} {to' = to'} {off = off} k p w e h = record { each = λ i m j. h.each i m j ∙ ap (moved off) (either j i m); near = h.near }
  where
    is : term_layout f k p ≡ single w (int w)
    is = unfold grow in single_int f k p off 0 to w e ∙ ap (single w) (tree_step f p ∙ ap (grow (tree_at f)) e)

    either : (j : RegionKind) (i : ℕ) → i < count (term_layout f k p) → placed_in (under {k = j} to) (nth (term_layout f k p) i) ≡ placed_in (under to') (nth (term_layout f k p) i)
    either j i m = unfold sub in let z : i ≡ 0 = omega (arith, m, ap (λ (L : Layout variable). count L) is) in rw (is, z) refl

pub written_none : {f : Bytes} {entries : List Primitive} {at : ℕ} {to : Bytes} {off : ℕ} (L : Layout variable) → count L ≡ 0 → Written f entries at to off L
written_none L e = record { each = λ i m. absurd (omega arith); near = λ i m. absurd (omega arith) }

pub kept_none : {entries : List Primitive} (at : ℕ) → Room entries → Kept entries entries at
kept_none at room = record { room = room; below = λ j m. refl }

pub written_same : {f : Bytes} {entries : List Primitive} {at : ℕ} {to : Bytes} {off : ℕ} {L M : Layout variable} → L ≡ M → Written f entries at to off L → Written f entries at to off M
written_same {f} {entries} {at} {to} {off} e w = subst (λ (L : Layout variable). Written f entries at to off L) e w

-- what is written later keeps what was written before
module _ {entries entries' : List Primitive} {at' : ℕ} (then : Kept entries entries' at') where
  pub kept_kept : {entries₀ : List Primitive} (at : ℕ) → at ≤ at' → Kept entries₀ entries at → Kept entries₀ entries' at
  kept_kept at l k = record { room = then.room; below = λ j m. then.below j (omega arith) ∙ k.below j m }

  pub written_kept : {f : Bytes} (at : ℕ) {to : Bytes} {off : ℕ} (L : Layout variable) → at + count L ≤ at' → Written f entries at to off L → Written f entries' at to off L
  written_kept {f} at {to} {off} L l w = record {
    each = λ i m. subst (λ (r : Primitive). Found f r to off (nth L i)) (sym (then.below (at + i) (omega arith))) (w.each i m);
    near = λ i m. subst (λ (r : Primitive). (r.off ≤ off + L.size) × (r.place ≤ 256)) (sym (then.below (at + i) (omega arith))) (w.near i m);
  }

-- ---- entries shifted

module _ {entries₀ : List Primitive} {from at by : ℕ} where
  pub shifted_none : Room entries₀ → Shifted entries₀ entries₀ from 0 at by
  shifted_none room = record { kept = kept_none at room; each = λ i m. absurd (omega arith) }

  module _ {entries : List Primitive} {i : ℕ} {x : Primitive} (so : Shifted entries₀ entries from i at by) (is : x ≡ entry_of entries (from + i)) (l : from + i < at) where
    pub as_before : x ≡ entry_of entries₀ (from + i)
    as_before = is ∙ so.kept.below (from + i) l

    pub shifted_more : at + i < 256 → Shifted entries₀ (set entries (at + i) (record { off = x.off + by; place = x.place; to = x.to })) from (i + 1) at by
    shifted_more h = record {
      kept = kept_kept then at (omega arith) so.kept;
      each = λ j w. ⊎_elim
          (λ v. then.below (at + j) (omega arith) ∙ so.each j v)
          (λ v.
          let z : j ≡ i = omega arith in
          rw z (entry_put so.kept.room (at + i) r small ∙ ap (λ (y : Primitive). record { off = y.off + by; place = y.place; to = y.to }) as_before))
          (lt_or_le j i);
    }
      where
        r : Primitive
        r = record { off = x.off + by; place = x.place; to = x.to }

        small : at + i < 256
        small = omega arith

        then : Kept entries (set entries (at + i) r) (at + i)
        then = kept_put so.kept.room (at + i) r small

found_shifted : (f : Bytes) (r : Primitive) (to : Bytes) (off by : ℕ) (P : Placed variable) → Found f r to off P → Found f (record { off = r.off + by; place = r.place; to = r.to }) to (off + by) P
found_shifted f r to off by P found k =
    ap {B = Placed k} (λ (x : ℕ). placed x (sub (under {k = k} r.to) (tree_at f r.place))) (add_comm r.off by) ∙ ap (moved by) (found k) ∙ moved_moved by off (placed_in (under {k = k} to) P)
    ∙ ap (λ (x : ℕ). moved x (placed_in (under {k = k} to) P)) (add_comm by off)

pub written_shifted : {f : Bytes} {entries entries' : List Primitive} {from at by : ℕ} {to : Bytes} {off many : ℕ} (L : Layout variable) → many ≡ count L → Written f entries from to off L
    → Shifted entries entries' from many at by → Written f entries' at to (off + by) L
written_shifted {f} {entries} {entries'} {from} {at} {by} {to} {off} L e w so = record {
  each = λ i m. subst (λ (r : Primitive). Found f r to (off + by) (nth L i)) (sym (so.each i (omega arith))) (found_shifted f (entry_of entries (from + i)) to off by (nth L i) (w.each i m));
  near = λ i m. subst (λ (r : Primitive). (r.off ≤ off + by + L.size) × (r.place ≤ 256)) (sym (so.each i (omega arith))) (let n = w.near i m in (omega (arith, n.0), n.1));
}

-- ---- one layout after another

found_moved : (f : Bytes) (r : Primitive) (to : Bytes) (off x : ℕ) (P : Placed variable) → Found f r to (off + x) P → Found f r to off (moved x P)
found_moved f r to off x P found k = found k ∙ sym (moved_moved off x (placed_in (under {k = k} to) P)) ∙ ap (moved off) (sym (placed_moved (under {k = k} to) x P))

module _ {f : Bytes} {entries : List Primitive} (at : ℕ) {to : Bytes} (off : ℕ) where
  written_packed : (A B : Layout variable) → Written f entries at to off A → Written f entries (at + count A) to (off + A.size) B → Written f entries at to off (packed A B)
  written_packed A B a b = record {
    each = λ i m. ⊎_elim (left i) (right i m) (lt_or_le i (count A));
    near = λ i m. ⊎_elim (λ l. let n = a.near i l in (omega (arith, n.0), n.1)) (beyond i m) (lt_or_le i (count A));
  }
    where
      beyond : (i : ℕ) → i < count (packed A B) → count A ≤ i → ((entry_of entries (at + i)).off ≤ off + (packed A B).size) × ((entry_of entries (at + i)).place ≤ 256)
      beyond i m l =
          let p : at + count A + (i - count A) ≡ at + i = omega arith in
          let n = subst (λ (x : ℕ). ((entry_of entries x).off ≤ off + A.size + B.size) × ((entry_of entries x).place ≤ 256)) p (b.near (i - count A) (omega (arith, count_packed A B))) in
          (omega (arith, n.0), n.1)

      left : (i : ℕ) → i < count A → Found f (entry_of entries (at + i)) to off (nth (packed A B) i)
      left i l = subst (λ (P : Placed variable). Found f (entry_of entries (at + i)) to off P) (sym (nth_left A B i l)) (a.each i l)

      right : (i : ℕ) → i < count (packed A B) → count A ≤ i → Found f (entry_of entries (at + i)) to off (nth (packed A B) i)
      right i m l =
          let s : i - count A < count B = omega (arith, count_packed A B) in
          let e : count A + (i - count A) ≡ i = omega arith in
          let p : at + count A + (i - count A) ≡ at + i = omega arith in
          let found = found_moved f (entry_of entries (at + i)) to off A.size (nth B (i - count A)) (subst (λ (x : ℕ). Found f (entry_of entries x) to (off + A.size) (nth B (i - count A))) p (b.each (i - count A) s)) in
          subst (λ (P : Placed variable). Found f (entry_of entries (at + i)) to off P) (sym (ap (nth (packed A B)) (sym e) ∙ nth_right A B (i - count A) s)) found

  -- one copy more
  pub written_copy : (h : ℕ) (L : Layout variable) (sz cnt : ℕ) → sz ≡ L.size → cnt ≡ count L → Written f entries at to off (copies_of h L) → Written f entries (at + h * cnt) to (off + h * sz) L
      → Written f entries at to off (copies_of (suc h) L)
  written_copy h L sz cnt is-size is-count a w = record { each = λ i m. ⊎_elim (left i m) (right i m) (lt_or_le i (h * count L)); near = λ i m. ⊎_elim (before_it i) (beyond i m) (lt_or_le i (h * count L)) }
    where
      b : Written f entries (at + h * count L) to (off + h * L.size) L
      b = rw (is-size, is-count) at w

      before_it : (i : ℕ) → i < h * count L → ((entry_of entries (at + i)).off ≤ off + (copies_of (suc h) L).size) × ((entry_of entries (at + i)).place ≤ 256)
      before_it i l =
          let n = a.near i (omega (arith, count_copies_of h L)) in
          (omega (arith, n.0, size_copies_of h L, size_copies_of (suc h) L), n.1)

      beyond : (i : ℕ) → i < count (copies_of (suc h) L) → h * count L ≤ i → ((entry_of entries (at + i)).off ≤ off + (copies_of (suc h) L).size) × ((entry_of entries (at + i)).place ≤ 256)
      beyond i m l =
          let p : at + h * count L + (i - h * count L) ≡ at + i = omega arith in
          let n = subst (λ (x : ℕ). ((entry_of entries x).off ≤ off + h * L.size + L.size) × ((entry_of entries x).place ≤ 256)) p (b.near (i - h * count L) (omega (arith, count_copies_of (suc h) L))) in
          (omega (arith, n.0, size_copies_of (suc h) L), n.1)

      some : (i : ℕ) → i < count (copies_of (suc h) L) → 0 < count L
      some i m = ⊎_elim (λ l. l) (λ l. absurd (let z : count L ≡ 0 = omega arith in let w : i < suc h * 0 = subst (λ (x : ℕ). i < suc h * x) z (omega (arith, count_copies_of (suc h) L)) in omega arith)) (lt_or_le 0 (count L))

      left : (i : ℕ) → i < count (copies_of (suc h) L) → i < h * count L → Found f (entry_of entries (at + i)) to off (nth (copies_of (suc h) L) i)
      left i m l =
          let e : nth (copies_of (suc h) L) i ≡ nth (copies_of h L) i = nth_copies (suc h) L i (some i m) (omega arith) ∙ sym (nth_copies h L i (some i m) l) in
          subst (λ (P : Placed variable). Found f (entry_of entries (at + i)) to off P) (sym e) (a.each i (omega (arith, count_copies_of h L)))

      right : (i : ℕ) → i < count (copies_of (suc h) L) → h * count L ≤ i → Found f (entry_of entries (at + i)) to off (nth (copies_of (suc h) L) i)
      right i m l =
          let s : i - h * count L < count L = omega (arith, count_copies_of (suc h) L) in
          let e : h * count L + (i - h * count L) ≡ i = omega arith in
          let p : at + h * count L + (i - h * count L) ≡ at + i = omega arith in
          let found = found_moved f (entry_of entries (at + i)) to off (h * L.size) (nth L (i - h * count L)) (subst (λ (x : ℕ). Found f (entry_of entries x) to (off + h * L.size) (nth L (i - h * count L))) p (b.each (i - h * count L) s)) in
          subst (λ (P : Placed variable). Found f (entry_of entries (at + i)) to off P) (sym (ap (nth (copies_of (suc h) L)) (sym e) ∙ nth-copy (suc h) L h (i - h * count L) (omega arith) s)) found

-- the first copy
pub written_first : {f : Bytes} {entries : List Primitive} (at : ℕ) {to : Bytes} (off : ℕ) (L : Layout variable) → Written f entries at to off L → Written f entries at to off (copies_of 1 L)
unfolding copies_of
written_first at off L w = written_packed at off L (copies_of 0 L) w (written_none (copies_of 0 L) refl)

pub copies_end : (h : ℕ) (L : Layout variable) (cnt : ℕ) → cnt ≡ count L → count (copies_of h L) ≡ h * cnt
copies_end h L cnt e = count_copies_of h L ∙ ap (λ (x : ℕ). h * x) (sym e)

-- there is room for copy h, and it is behind the first
pub copy_room : (x many h s : ℕ) → h < many → x + many * s ≤ 256 → x + h * s + s ≤ 256
copy_room x many h s l r = let m : suc h * s ≤ many * s = mul-le-mul_right s l in omega arith

pub copy_behind : (h s : ℕ) → 0 < h → s ≤ h * s
copy_behind h s l = let m : 1 * s ≤ h * s = mul-le-mul_right s l in omega arith

-- ---- of a struct

module _ {f : Bytes} {entries : List Primitive} {at : ℕ} {to : Bytes} {off : ℕ} (k p : ℕ) where
  pub written_struct : (N c d : ℕ) → term_layout f k p ≡ sub_layout (arg (args_of d c)) (struct_layout f N) → (inside : Bytes) → Keeps to → ((v : ℕ) → byte_under inside v ≡ arg_byte to d c v)
      → Written f entries at inside off (struct_layout f N) → Written f entries at to off (term_layout f k p)
  written_struct N c d is inside keeps h w =
      let same = struct_count f k p off 0 to N c d is in
      let size = struct_size_law f k p off 0 to N c d is in
      record {
        each = λ i m. found_struct f k p off i to N c d is inside keeps h (entry_of entries (at + i)) (w.each i (omega arith));
        near = λ i m. let n = w.near i (omega arith) in (omega (arith, n.0), n.1);
      }

-- ---- field by field

module _ (f : Bytes) (n N : ℕ) (is : Terms f n) (off at : ℕ) (fits : off + (struct_layout f N).size ≤ 256) (room : at + count (struct_layout f N) ≤ 256)
    (j sz cnt : ℕ) (less : j < field_count f n N) (is-size : sz ≡ (before f n N j).size) (is-count : cnt ≡ count (before f n N j)) where
  all_fit : (before f n N (field_count f n N)).size ≤ 256
  all_fit = omega (arith, fits, ap (λ (L : Layout variable). L.size) (struct_fields f n N is))

  next : before f n N (suc j) ≡ packed (before f n N j) (field f n N j)
  next = more_packed f n N j (fits_below f n N (suc j) (field_count f n N) less all_fit)

  pub size_next : sz + (field f n N j).size ≡ (before f n N (suc j)).size
  size_next = omega (arith, is-size, ap (λ (L : Layout variable). L.size) next)

  pub count_next : cnt + count (field f n N j) ≡ count (before f n N (suc j))
  count_next = omega (arith, is-count, ap (λ (L : Layout variable). count L) next, count_packed (before f n N j) (field f n N j))

  pub field_fits : off + sz + (field f n N j).size ≤ 256
  field_fits = omega (arith, fits, size_next, ap (λ (L : Layout variable). L.size) (struct_fields f n N is), size_below f n N (suc j) (field_count f n N) less all_fit)

  pub field_room : at + cnt + count (field f n N j) ≤ 256
  field_room = omega (arith, room, count_next, ap (λ (L : Layout variable). count L) (struct_fields f n N is), count_below f n N (suc j) (field_count f n N) less all_fit)

  pub written_field : {entries : List Primitive} {to : Bytes} → Written f entries at to off (before f n N j) → Written f entries (at + cnt) to (off + sz) (field f n N j)
      → Written f entries at to off (before f n N (suc j))
  written_field {entries} {to} a b =
      subst (λ (L : Layout variable). Written f entries at to off L) (sym next)
      (written_packed at off (before f n N j) (field f n N j) a (rw (is-size, is-count) at b))

-- ---- structs remembered

-- nothing is remembered at first
pub past_none : (f : Bytes) (entries : List Primitive) (n at off : ℕ) → Past f entries (replicate n None) at off
past_none f entries n at off = record { each = λ N l r e. absurd (let z = none_there N in cc) }
  where
    none_there : (N : ℕ) → get_or (replicate {A = Option Seen} n None) N None ≡ None
    none_there N = ⊎_elim
        (λ l. get_or-replicate {A = Option Seen} n N None None l)
        (λ l. get_or-eq_default (replicate {A = Option Seen} n None) None (omega (arith, length-replicate {A = Option Seen} n None)))
        (lt_or_le N n)

module _ {f : Bytes} {entries : List Primitive} {seen : List (Option Seen)} (at off : ℕ) (past : Past f entries seen at off) where
  pub past_later : {at' off' : ℕ} → at ≤ at' → off ≤ off' → Past f entries seen at' off'
  past_later a o = record { each = λ N l r e. (let p = past.each N l r e in record { behind = omega (arith, p.behind); nearer = omega (arith, p.nearer); is = p.is }) }

  -- what is remembered stays
  pub past_kept : {entries' : List Primitive} {at' : ℕ} → Kept entries entries' at' → at ≤ at' → Past f entries' seen at off
  past_kept kept le = record {
    each = λ N l r e.
        (let p = past.each N l r e in
        record { behind = p.behind; nearer = p.nearer; is = written_kept kept r.start (struct_layout f N) (omega (arith, p.behind)) p.is });
  }

default : (l : Bytes) (v d : ℕ) → v < length l → get_or l v d ≡ get_or l v 0
default [] v d h = absurd (omega arith)
default (x ∷ l) zero d h = refl
default (x ∷ l) (suc v) d h = default l v d (omega arith)

pub agree_all : (x y : Bytes) → length x ≡ 8 → length y ≡ 8 → ((v : ℕ) → v < 8 → get_or x v 0 ≡ get_or y v 0) → Agree x y
agree_all x y a b h v = ⊎_elim
    (λ l. default x v nowhere (omega arith) ∙ h v l ∙ sym (default y v nowhere (omega arith)))
    (λ l. get_or-eq_default x nowhere {n = v} (omega arith) ∙ sym (get_or-eq_default y nowhere {n = v} (omega arith)))
    (lt_or_le v 8)

pub written_off : {f : Bytes} {entries : List Primitive} {at : ℕ} {to : Bytes} {off off' : ℕ} {L : Layout variable} → off ≡ off' → Written f entries at to off L → Written f entries at to off' L
written_off {f} {entries} {at} {to} {off} {off'} {L} e w = subst (λ (x : ℕ). Written f entries at to x L) e w

pub agree_written : {f : Bytes} {entries : List Primitive} {at : ℕ} {to to' : Bytes} {off : ℕ} (L : Layout variable) → Agree to to' → Written f entries at to off L → Written f entries at to' off L
agree_written {f} {entries} {at} {to} {to'} {off} L h w = record { each = λ i m k. w.each i m k ∙ ap (moved off) (placed_agree k (nth L i)); near = w.near }
  where
    placed_agree : (k : RegionKind) (P : Placed variable) → placed_in (under {k = k} to) P ≡ placed_in (under to') P
    placed_agree k (placed d T) = ap {B = Placed k} (placed d) (sub_same (under {k = k} to) (under to') (under_agree to to' h) T)

-- a struct that is written is remembered
module _ {f : Bytes} {entries : List Primitive} {seen : List (Option Seen)} (N at : ℕ) (to : Bytes) (off at' off' : ℕ) (past : Past f entries seen at' off') (w : Written f entries at to off (struct_layout f N))
    (le : at + count (struct_layout f N) ≤ at') (nearer : off ≤ off') where
  abbrev last : Seen
  last = record { start = at; off = off; to = to }

  pub past_put : Past f entries (set seen N (Some last)) at' off'
  past_put = record { each = λ M l r e. go M l r e (ℕ_discrete M N) }
    where
      here : PastOf f entries at' off' N last
      here = record { behind = le; nearer = nearer; is = w }

      go : (M : ℕ) → M < 32 → (r : Seen) → get_or (set seen N (Some last)) M None ≡ Some r → Dec (M ≡ N) → PastOf f entries at' off' M r
      go M l r e (yes z) =
          ⊎_elim
          (λ s. let g : get_or (set seen N (Some last)) M None ≡ Some last = rw z (get_or-set_same seen N (Some last) None s) in let k : last ≡ r = cc in let h : PastOf f entries at' off' M last = rw z here in subst (λ (x : Seen). PastOf f entries at' off' M x) k h)
          (λ s. absurd (let g : get_or (set seen N (Some last)) M None ≡ None = get_or-eq_default (set seen N (Some last)) None (omega (arith, length-set seen N (Some last))) in cc))
          (lt_or_le N (length seen))
      go M l r e (no d) = past.each M l r (sym (get_or-set_other seen N M (Some last) None d) ∙ e)
