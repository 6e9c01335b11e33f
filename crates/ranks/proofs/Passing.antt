-- The pass that makes the body: the words of a block as they are written are the body's segments.
-- Assumes nothing.
use Prim.Native.Nat.{ℕ, suc, ◌+◌, ◌-◌, ◌*◌, ◌^◌, ◌≤◌, ◌<◌}
use mathlib.Core.Bool.{Bool, true, false, ◌&&◌, ◌||◌}
use mathlib.Core.Path.{◌≡◌, refl, sym, ap, ap₂, ◌∙◌, subst}
use mathlib.Core.List.{List}
use lib.Dec.{eqb, ltb}
use lib.ListN.{length, get_or, take, drop, length-map, length-replicate, get_or-replicate, get_or-map}
use lib.Seq.{get_or-take, length-take-le}
use native.Mathlib.Nat.{mod-eq_of_lt, suc-mul, mul-le-mul_right}
use native.Mathlib.Decide.{dec_le, ℕ_discrete}
use native.Mathlib.Omega.{arith}
use borrow.Author.Tests.{lt-ltb, le-ltb}
use Rattle.meaning.specs.Limits.{word_bits, most_segments, block_segments}
use Rattle.meaning.specs.Segment.{Segment, clean, kind, rows_in, all_set, is_set}
use Rattle.meaning.specs.Format.{width, most_run, words_of, canonical}
use Rattle.meaning.specs.Index.{format_of, row_count}
use Rattle.column_meaning.specs.Ranking.{ahead}
use Rattle.meaning.specs.declared.Format.{Format}
use Rattle.meaning.specs.declared.Ranking.{Ranking}
use Rattle.laws.proofs.Formats.{width-pos, width-le}
use Rattle.laws.proofs.Cut.{rows_inside, rows-some, rows-le}
use Rattle.laws.proofs.Evaluated.{part-is}
use Rattle.ewah_write.specs.declared.writer.Writer.{Writer}
use Rattle.body_write.specs.Bodies.{Growing, RoomFor, Emitted, UpTo}
use Rattle.body_write.proofs.UpTo.{up-growing, up_room, up_more}
use Rattle.block_read.specs.Taken.{word_at}
use Rattle.block_write.specs.Rowed.{row_segments, row_length, CleanWord}
use Rattle.ewah.specs.declared.cursor.Cursor.{Cursor}
use Rattle.blocks.specs.Blocks.{NextPlaced}
use Rattle.blocks.proofs.Values.{place, place-low}
use Rattle.blocks.proofs.Segmented.{segs, segs-length, segment-is, word_low}
use Rattle.blocks.proofs.Runs.{uniform, rows_kind, clean-kind}
use Rattle.blocks.proofs.Walks.{S}
use Rattle.pivots.specs.Splits.{SplitBy, Taken}
use Rattle.ranks.specs.Frames.{Column}
use Rattle.ranks.specs.Passes.{EndOf, Kept, Spelled, cut_rows, cut_body}
use Rattle.ranks.proofs.Along.{few}
use Rattle.ranks.proofs.Comparing.{Tested, has-rows, clear, like, tested-ahead, tested-same}

-- the segments of the body
abbrev pub own_segments : (op : Ranking) (index list : List ℕ) (value cut : ℕ) → List Segment
own_segments op index list value cut = segs (format_of index) (row_count index) (cut_rows op index list value cut)

pub body_is : (op : Ranking) (index list : List ℕ) (value cut : ℕ)
    → words_of (format_of index) (row_count index) (own_segments op index list value cut) ≡ cut_body op index list value cut
body_is op index list value cut = unfold canonical in refl

-- what a row that a writer of the format G is given must be
abbrev pub MayEmit : (G : Format) (v : Writer) (ws : List ℕ) (n : ℕ) (even store : Bool) (room : ℕ) → Type 0
MayEmit G v ws n even store room =
    Growing G v n
    × (((1 ≤ n) × (n ≤ most_run G) × (even ≡ true → (1 ≤ length ws) × CleanWord G (get_or ws 0 0)) × (even ≡ false → length ws ≡ n))
    × (store ≡ true → RoomFor G (row_segments G ws n even) v room))

-- ---- the bits before the cut, which is at bit `low` of segment `at`

module _ {o at low w keep end n S : ℕ} (kp : Kept o at low keep) (en : EndOf o at S end) (within : o + n ≤ end) (l : low < w)
    (wide : w ≤ word_bits) where
  -- of every segment of the block
  pub kept-rows : (i j : ℕ) → i < n → j < w → is_set keep j ≡ ltb ((o + i) * w + j) (at * w + low)
  kept-rows i j h k = elim (dec_le (suc o) at) [
    | yes g ↦
        let e = mul-le-mul_right w (before g) in
        kp.before g j (omega arith) ∙ sym (lt-ltb ((o + i) * w + j) (at * w + low) (omega (arith, e, suc-mul (o + i) w)))
    | no g ↦ elim (ℕ_discrete o at) [
      | yes q ↦ kp.here q j (omega arith) ∙ here q
      | no q ↦
          let e = mul-le-mul_right w (behind g q) in
          kp.behind (omega arith) j (omega arith)
          ∙ sym (le-ltb ((o + i) * w + j) (at * w + low) (omega (arith, e, suc-mul at w)))
    ]
  ]
    where
      before : suc o ≤ at → suc (o + i) ≤ at
      before g = omega (arith, en.before g, within)

      behind : (suc o ≤ at → ⊥) → (o ≡ at → ⊥) → suc at ≤ o + i
      behind g q = omega arith

      here : o ≡ at → ltb j low ≡ ltb ((o + i) * w + j) (at * w + low)
      here q =
          let e = en.alone q in
          let z : o + i ≡ at = omega (arith, within) in
          let a : (o + i) * w ≡ at * w = ap (λ (x : ℕ). x * w) z in
          elim (dec_le (suc j) low) [
            | yes g ↦ lt-ltb j low g ∙ sym (lt-ltb ((o + i) * w + j) (at * w + low) (omega arith))
            | no g ↦ le-ltb j low (omega arith) ∙ sym (le-ltb ((o + i) * w + j) (at * w + low) (omega arith))
          ]

  -- of several segments all or none
  pub kept-alike : 2 ≤ n → (j : ℕ) → j < w → 0 < w → is_set keep j ≡ is_set keep 0
  kept-alike several j k pos = elim (dec_le (suc o) at) [
    | yes g ↦ kp.before g j (omega arith) ∙ sym (kp.before g 0 (omega arith))
    | no g ↦ elim (ℕ_discrete o at) [
      | yes q ↦ absurd (omega (arith, en.alone q, within))
      | no q ↦ kp.behind (omega arith) j (omega arith) ∙ sym (kp.behind (omega arith) 0 (omega arith))
    ]
  ]

-- ---- a block

module _ {op : Ranking} {index list : List ℕ} {value cut at low o end n : ℕ} {even : Bool} {cursors : List Cursor} {x a s : List ℕ} {keep mask full len : ℕ}
    {t row : List ℕ} (cs : Column index list) (nb : NextPlaced index list o end n even cursors x)
    (sp : SplitBy op x (length list - 1) value a s) (la : (w : ℕ) → get_or a w 0 < 2 ^ word_bits)
    (ls : (w : ℕ) → get_or s w 0 < 2 ^ word_bits) (tk : Taken a s keep t) (lt : (w : ℕ) → get_or t w 0 < 2 ^ word_bits)
    (kp : Kept o at low keep) (en : EndOf o at (S index) end) (l : low < width (format_of index))
    (cut-is : cut ≡ at * width (format_of index) + low)
    (ps : Spelled t n even mask full row) (len-is : len ≡ row_length n even) (long : length t ≡ block_segments) where
  abbrev F : Format
  F = format_of index

  abbrev R : ℕ
  R = row_count index

  abbrev w : ℕ
  w = width F

  abbrev q : ℕ → Bool
  q = cut_rows op index list value cut

  abbrev T : List Segment
  T = own_segments op index list value cut

  ta : Tested x (length list - 1) (λ v. ahead op v value) a
  ta = tested-ahead sp la

  tb : Tested x (length list - 1) (λ v. eqb v value) s
  tb = tested-same sp ls

  inside : (i : ℕ) → i < n → o + i < S index
  inside i h = omega (arith, nb.within, en.within)

  -- one segment
  module _ (i : ℕ) (h : i < n) where
    abbrev p : ℕ
    p = place even i

    p-low : p < block_segments
    p-low = place-low even i n h nb.in_block

    front : (v : List ℕ) → word_at even v 0 i ≡ get_or v p 0
    unfolding word_at
    front v = ap (λ (k : ℕ). get_or v k 0) (omega arith)

    low_word : get_or t p 0 < 2 ^ w
    low_word =
        word_low F (get_or t p 0) (lt p)
        (λ j g k. tk.bits p j p-low ∙ ap₂ (λ (b c : Bool). b || (c && is_set keep j)) (clear cs nb ta i h j g k) (clear cs nb tb i h j g k))

    bits : (j : ℕ) → j < w → is_set (get_or t p 0) j ≡ q ((o + i) * w + j)
    bits j k =
        tk.bits p j p-low
        ∙ ap₂ (λ (b c : Bool). b || c)
        (ap (λ (v : ℕ). is_set v j) (sym (front a)) ∙ (has-rows cs nb ta).bits i j h k)
        (ap₂ (λ (b c : Bool). b && c)
        (ap (λ (v : ℕ). is_set v j) (sym (front s)) ∙ (has-rows cs nb tb).bits i j h k)
        (kept-rows kp en nb.within l (width-le F) i j h k ∙ ap (ltb ((o + i) * w + j)) (sym cut-is)))

    segment : get_or T (o + i) (clean 0) ≡ rows_kind F R (o + i) (get_or t p 0)
    segment = segment-is F R q (o + i) (get_or t p 0) (inside i h) (λ j k g. bits j k)

  -- a run's word is that of a clean segment
  run-clean : even ≡ true → CleanWord (format_of index) (get_or t 0 0)
  run-clean e =
      let zero_in : 0 < n = omega (arith, nb.some) in
      let z : place even 0 ≡ 0 = rw e in
      uniform F (get_or t 0 0) (rw z at (low_word 0 zero_in))
      (λ j k.
      let pos = width-pos F in
      tk.bits 0 j (omega arith)
      ∙ ap₂ (λ (b c : Bool). b || c) (like cs nb ta e j k)
      (ap₂ (λ (b c : Bool). b && c) (like cs nb tb e j k)
      (kept-alike kp en nb.within l (width-le F) (nb.several e) j k pos))
      ∙ sym (tk.bits 0 0 (omega arith)))

  -- the word of a segment as it is written
  module _ (Full-is : full ≡ all_set (width (format_of index)))
      (mask_is : mask ≡ all_set (rows_in (width (format_of index)) (row_count index) (o + n - 1))) where
    written : (b : Bool) → even ≡ b → (i : ℕ) (h : i < n) → kind w (word_at even row 0 i) ≡ rows_kind F R (o + i) (get_or t (p i h) 0)
    written true e i h =
        let z : place even i ≡ 0 = rw e in
        ap (kind w) (front i h row ∙ ap₂ (λ (v : List ℕ) (k : ℕ). get_or v k 0) (ps.run e) z)
        ∙ clean-kind F R (o + i) (inside i h) (get_or t 0 0) (run-clean e)
        ∙ ap (λ (k : ℕ). rows_kind F R (o + i) (get_or t k 0)) (sym z)
    written false e i h =
        let z : place even i ≡ i = rw e in
        ap (kind w) (front i h row ∙ ap (λ (k : ℕ). get_or row k 0) z)
        ∙ elim (dec_le (suc (suc i)) n) [
          | yes g ↦ ap (kind w) (ps.others e i (omega arith)) ∙ whole g
          | no g ↦ last (omega arith)
        ]
        ∙ ap (λ (k : ℕ). rows_kind F R (o + i) (get_or t k 0)) (sym z)
      where
        whole : suc i < n → kind w (get_or t i 0) ≡ rows_kind F R (o + i) (get_or t i 0)
        whole g =
            let z : place even i ≡ i = rw e in
            let r = rows_inside w (width-pos F) R (o + i) (omega (arith, inside (suc i) g)) in
            rw r (ap (kind w) (sym (mod-eq_of_lt (rw z at (low_word i h)))))

        last : suc i ≡ n → kind w (get_or row i 0) ≡ rows_kind F R (o + i) (get_or t i 0)
        last g =
            let z : n - 1 ≡ i = omega arith in
            let m : o + n - 1 ≡ o + i = omega arith in
            rw (z, m) at
            (ps.last e w (rows_in w R (o + n - 1)) (rows-some w (width-pos F) R (o + n - 1) (omega (arith, inside i h)))
            (rows-le w (width-pos F) R (o + n - 1)) Full-is mask_is)

    -- the row that goes to the writer
    abbrev words : List ℕ
    words = take len row

    pub words-some : even ≡ true → (1 ≤ length (take len row)) × CleanWord (format_of index) (get_or (take len row) 0 0)
    words-some e =
        let one : len ≡ 1 = len-is ∙ ap (row_length n) e in
        let many : length words ≡ len = length-take-le len row (omega (arith, ps.long, long)) in
        (omega arith, rw (get_or-take len row 0 0 (omega arith), ps.run e) (run-clean e))

    pub words-all : even ≡ false → length (take len row) ≡ n
    words-all e =
        length-take-le len row (omega (arith, ps.long, long, (len-is ∙ ap (row_length n) e), nb.in_block e)) ∙ (len-is ∙ ap (row_length n) e)

    at-word : (b : Bool) → even ≡ b → (i : ℕ) → i < n
        → get_or (row_segments (format_of index) (take len row) n b) i (clean 0) ≡ kind (width (format_of index)) (word_at b row 0 i)
    unfolding row_segments word_at kind all_set
    at-word true e i h =
        get_or-replicate n i (kind w (get_or words 0 0)) (clean 0) h
        ∙ ap (kind w) (get_or-take len row 0 0 (omega (arith, (len-is ∙ ap (row_length n) e))))
    at-word false e i h =
        let z : 0 + i ≡ i = omega arith in
        get_or-map (kind w) words i 0
        ∙ ap (kind w) (get_or-take len row i 0 (omega (arith, (len-is ∙ ap (row_length n) e))) ∙ ap (λ (k : ℕ). get_or row k 0) (sym z))

    many-segments : (b : Bool) → even ≡ b → length (row_segments (format_of index) (take len row) n b) ≡ n
    unfolding row_segments
    many-segments true e = length-replicate n (kind w (get_or words 0 0))
    many-segments false e = length-map words (kind w) ∙ words-all e

    pub part_of : row_segments (format_of index) (take len row) n even
        ≡ take n (drop o (own_segments op index list value cut))
    part_of =
        sym (part-is T (row_segments F words n even) o n (many-segments even refl)
        (omega (arith, nb.within, en.within, segs-length F R q))
        (λ i h. segment i h ∙ sym (at-word even refl i h ∙ written even refl i h)))

    -- ---- what the writer may be given, and what it has then

    few-segments : o + n ≤ most_segments
    few-segments = omega (arith, nb.within, en.within, few cs)

    -- by a writer of the index's format
    pub may-emit : {G : Format} → G ≡ format_of index → {store : Bool} {old out : List ℕ} {v : Writer}
        → UpTo (format_of index) (row_count index) (own_segments op index list value cut) store old out v o
        → (store ≡ true → length (cut_body op index list value cut) ≤ length out)
        → MayEmit G v (take len row) n even store (length out)
    may-emit {G} is {store} {old} {out} {v} g fits =
        subst (λ (H : Format). MayEmit H v words n even store (length out)) (sym is)
        (up-growing g n few-segments, ((nb.some, nb.in-run, words-some, words-all), room_for))
      where
        room_for : store ≡ true → RoomFor F (row_segments F words n even) v (length out)
        room_for e = up_room g n few-segments _ part_of (length out) (rw (body_is op index list value cut) (fits e))

    pub up_next : {G : Format} → G ≡ format_of index → {store : Bool} {old out out' : List ℕ} {v v' : Writer}
        → UpTo (format_of index) (row_count index) (own_segments op index list value cut) store old out v o
        → ((real : ℕ) → mask ≡ 2 ^ real - 1 → Emitted G real out out' v (row_segments G (take len row) n even) store v')
        → UpTo (format_of index) (row_count index) (own_segments op index list value cut) store old out' v' (o + n)
    unfolding all_set
    up_next {G} is {store} {old} {out} {out'} {v} {v'} g put =
        up_more g n few-segments _ part_of nb.some (omega (arith, nb.within, en.within))
        (subst (λ (H : Format). Emitted H real out out' v (row_segments H words n even) store v') is (put real mask_is))
      where
        real : ℕ
        real = rows_in w R (o + n - 1)
