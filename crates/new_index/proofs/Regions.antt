-- The parts of a buffer in which several bodies are written: what a push to one of them changes, and a push to each in turn.
-- Assumes nothing.
use Prim.Native.Nat.{ℕ, ◌+◌, ◌-◌, ◌^◌, ◌≤◌, ◌<◌}
use mathlib.Core.Bool.{Bool}
use mathlib.Core.Path.{◌≡◌, refl, sym, ap, ◌∙◌}
use mathlib.Core.List.{List, [], ◌++◌}
use borrow.Author.Rules.{rules}
use borrow.Rule.Slice.PartMut.{put_mid}
use lib.ListN.{length, get_or, take, drop, set, replicate, length-set, length-drop}
use lib.Seq.{get_or-take, get_or-set_same, get_or-set_other, length-take-le}
use Rattle.std.proofs.lemmas.List.{places, get_or-replicate, get_or_append_left}
use Rattle.std.proofs.lemmas.Slice.{between_is, between-put_mid, take-put_mid_below, drop-put_mid}
use native.Mathlib.Decide.{dec_le}
use native.Mathlib.Omega.{arith}
use Rattle.meaning.specs.Limits.{most_value_column}
use Rattle.meaning.specs.Segment.{Segment}
use Rattle.meaning.specs.declared.Format.{Format}
use Rattle.ewah_write.specs.declared.writer.Writer.{Writer}
use Rattle.body_write.specs.Bodies.{Stands, Emitted}
use Rattle.new_index.specs.Writers.{writer_of, no_writer, Laid, region, EmittedAll}

-- ---- the writers at the start

pub all-alike : {F : Format} (w : Writer) → Stands F w [] → (i : ℕ) → i < most_value_column
    → Stands F (writer_of (replicate most_value_column w) i) []
all-alike w h i l = rw (get_or-replicate most_value_column i w no_writer l) h

-- ---- a part that lies before the elements that were replaced

part-before : (l ys : List ℕ) (f k a b : ℕ) → f ≤ length l → b ≤ f → take (b - a) (drop a (put_mid f k l ys)) ≡ take (b - a) (drop a l)
part-before l ys f k a b fl bf =
    between_is (put_mid f k l ys) a b ∙ ap (drop a) (take-put_mid_below f k l ys b bf fl) ∙ sym (between_is l a b)

-- ---- a push to each part in turn

pub region-length : (starts out : List ℕ) (count i : ℕ) → Laid starts count (length out) → i < count
    → length (region starts out i) ≡ get_or starts (i + 1) 0 - get_or starts i 0
region-length starts out count i laid h =
    let in_order : get_or starts i 0 ≤ get_or starts (i + 1) 0 = laid.rising i (i + 1) (omega arith) (omega arith) in
    let in_all : get_or starts (i + 1) 0 ≤ get_or starts count 0 = laid.rising (i + 1) count (omega arith) (omega arith) in
    length-take-le (get_or starts (i + 1) 0 - get_or starts i 0) (drop (get_or starts i 0) out)
    (omega (arith, length-drop (get_or starts i 0) out, in_order, in_all, laid.within))

-- of segments ss, of whose last one the mask has the rows
module _ (F : Format) (mask : ℕ) (starts old : List ℕ) (wsₒ : List Writer) (count : ℕ) (ss : ℕ → List Segment) (store : Bool) where
  -- the first m bodies got theirs
  pub record Going (out : List ℕ) (ws : List Writer) (m : ℕ) : Type 0 where
    pub long : length out ≡ length old
    pub writers-long : length ws ≡ length wsₒ
    pub done : (real : ℕ) → mask ≡ 2 ^ real - 1 → (i : ℕ) → i < m
        → Emitted F real (region starts old i) (region starts out i) (writer_of wsₒ i) (ss i) store (writer_of ws i)
    pub ahead : (i : ℕ) → m ≤ i → writer_of ws i ≡ writer_of wsₒ i
    pub same : (i : ℕ) → m ≤ i → i < count → region starts out i ≡ region starts old i
    pub front : take (get_or starts 0 0) out ≡ take (get_or starts 0 0) old
    pub back : drop (get_or starts count 0) out ≡ drop (get_or starts count 0) old

  module _ (laid : Laid starts count (length old)) (out : List ℕ) (ws : List Writer) (m : ℕ) (g : Going out ws m) where
    -- the next one's part became ys, and its writer v
    module _ (h : m < count) (ys : List ℕ) (v : Writer) (long' : length ys ≡ length (region starts out m))
        (e : (real : ℕ) → mask ≡ 2 ^ real - 1 → Emitted F real (region starts out m) ys (writer_of ws m) (ss m) store v)
        (k : m < length ws) where
      abbrev ws' : List Writer
      ws' = set ws m v

      abbrev f : ℕ
      f = get_or starts m 0

      abbrev t : ℕ
      t = get_or starts (m + 1) 0

      abbrev out' : List ℕ
      out' = put_mid f (t - f) out ys

      ft : f ≤ t
      ft = laid.rising m (m + 1) (omega arith) (omega arith)

      tl : t ≤ length out
      tl = omega (arith, laid.rising (m + 1) count (omega arith) (omega arith), laid.within, g.long)

      n : length ys ≡ t - f
      n = long' ∙ region-length starts out count m (rw g.long laid) h

      -- another body's part stays
      elsewhere : (i : ℕ) → i < count → (i ≡ m → ⊥) → region starts out' i ≡ region starts out i
      elsewhere i l d = elim (dec_le i m) [
        | yes w ↦
            part-before out ys f (t - f) (get_or starts i 0) (get_or starts (i + 1) 0) (omega (arith, ft, tl))
            (laid.rising (i + 1) m (omega arith) (omega arith))
        | no w ↦
            ap (λ (x : List ℕ). take (get_or starts (i + 1) 0 - get_or starts i 0) x)
            (drop-put_mid f (t - f) out ys (get_or starts i 0)
            (omega (arith, ft, laid.rising (m + 1) i (omega arith) (omega arith))) (omega (arith, ft, tl)) n)
      ]

      module _ (real : ℕ) (rows : mask ≡ 2 ^ real - 1) where
        here : Emitted F real (region starts old m) (region starts out' m) (writer_of wsₒ m) (ss m) store
            (writer_of ws' m)
        here =
            rw (between-put_mid f (t - f) out ys t (omega (arith, ft, tl)) n, get_or-set_same ws m v no_writer k, ← g.same m (omega arith) h, ← g.ahead m (omega arith))
            (e real rows)

        done : (i : ℕ) → i < m + 1
            → Emitted F real (region starts old i) (region starts out' i) (writer_of wsₒ i) (ss i) store (writer_of ws' i)
        done i l = elim (dec_le m i) [
          | yes w ↦ let z : i ≡ m = omega arith in rw z here
          | no w ↦
              rw (elsewhere i (omega arith) (λ z. absurd (omega arith)), get_or-set_other ws m i v no_writer (omega arith))
              (g.done real rows i (omega arith))
        ]

      pub going_more : Going out' ws' (m + 1)
      going_more = record {
        long = search (rules, places) ∙ g.long;
        writers-long = length-set ws m v ∙ g.writers-long;
        done = done;
        ahead = λ i l. get_or-set_other ws m i v no_writer (omega arith) ∙ g.ahead i (omega arith);
        same = λ i l k. elsewhere i k (λ z. absurd (omega arith)) ∙ g.same i (omega arith) k;
        front = take-put_mid_below f (t - f) out ys (get_or starts 0 0) (laid.rising 0 m (omega arith) (omega arith)) (omega (arith, ft, tl)) ∙ g.front;
        back =
            drop-put_mid f (t - f) out ys (get_or starts count 0)
            (omega (arith, ft, laid.rising (m + 1) count (omega arith) (omega arith))) (omega (arith, ft, tl)) n
            ∙ g.back;
      }

    pub going-all : m ≡ count → (real : ℕ) → mask ≡ 2 ^ real - 1 → EmittedAll F real starts old out wsₒ ws count ss store
    going-all z real rows = record {
      long = g.long;
      writers-long = g.writers-long;
      each = λ i l. g.done real rows i (omega arith);
      others = λ i l. g.ahead i (omega arith);
      front = g.front;
      back = g.back;
    }

-- what the first c writers got, they got among all
pub emitted-part : {F : Format} {real : ℕ} {starts out out' : List ℕ} {ws ys : List Writer} {c : ℕ} {ss : ℕ → List Segment} {store : Bool}
    → c ≤ length ws → EmittedAll F real starts out out' (take c ws) ys (length (take c ws)) ss store
    → EmittedAll F real starts out out' ws (ys ++ drop c ws) c ss store
emitted-part {ws = ws} {ys = ys} {c = c} h g =
    let long : length (take c ws) ≡ c = length-take-le c ws h in
    let here : length ys ≡ c = g.writers-long ∙ long in
    record {
      long = g.long;
      writers-long = search (rules, places);
      each = λ i l.
          rw (← get_or-take c ws i no_writer l, get_or_append_left ys (drop c ws) no_writer i (omega arith)) (g.each i (omega arith));
      others = λ i l. search (rules, places);
      front = g.front;
      back = rw long at g.back;
    }
