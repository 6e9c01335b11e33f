-- A walk that takes a marker with its dirty words off the front of a body.
-- Assumes nothing.
use Prim.Native.Nat.{ℕ, suc, ◌+◌, ◌≤◌, ◌<◌}
use mathlib.Core.Path.{◌≡◌, sym, ap, ◌∙◌}
use mathlib.Core.List.{List, [], ◌∷◌, ◌++◌}
use lib.ListN.{length, take, drop, get_or, length-drop}
use lib.Seq.{drop-cons, drop-drop, take_at, drop_at, get_or-take, get_or-drop}
use native.Mathlib.Omega.{arith}
use native.Mathlib.Numerals.{add-one}
use Rattle.meaning.specs.Ewah.{dirty_of, due_after, segments}
use Rattle.laws.proofs.Decoded.{due-le}
use Rattle.laws.proofs.Walk.{At, Step, due-dirty-words, at-start, at-end}
use Rattle.ewah.specs.Markers.{FieldsOf}
use Rattle.ewah.specs.Taken.{MarkerFirst}
use Rattle.ewah.specs.declared.marker.Marker.{Marker}
use Rattle.ewah.proofs.MarkerStep.{read_step}

-- a body that lacks no dirty word, and begins with the marker w
module _ (b : List ℕ) (w : ℕ) (ws : List ℕ) (all : due_after 0 b ≡ 0) (e : b ≡ w ∷ ws) where
  due : due_after (dirty_of w) ws ≡ 0
  unfolding due_after
  due = rw e at all

  -- has those that it announces, and none is lacking behind them
  pub announced : dirty_of w ≤ length ws
  announced = due-le (dirty_of w) ws due

  pub all-behind : due_after 0 (drop (dirty_of w) ws) ≡ 0
  all-behind = sym (due-dirty-words (dirty_of w) ws announced) ∙ due

-- ---- what is left of the body b: from a marker on, with o segments behind

pub record Left (b rest : List ℕ) (o : ℕ) : Type 0 where
  pub at : ℕ
  pub is : rest ≡ drop at b
  pub stands : At b at 0 o

pub left-start : (b rest : List ℕ) → rest ≡ b → due_after 0 b ≡ 0 → Left b rest 0
left-start b rest e d = record { at = 0; is = e; stands = at-start b d }

-- no dirty word is lacking in it
pub left-due : {b rest : List ℕ} {o : ℕ} → Left b rest o → due_after 0 rest ≡ 0
left-due l = rw l.is l.stands.ended

-- where no word is left
pub left-none : {b rest : List ℕ} {o : ℕ} → Left b rest o → rest ≡ [] → o ≡ length (segments b)
left-none {b} {rest} {o} l e =
    let n : length (drop l.at b) ≡ 0 = ap length (sym l.is ∙ e) in
    at-end b l.at o l.stands (omega (arith, length-drop l.at b))

-- where a marker and its dirty words are taken off
module _ {b rest : List ℕ} {o : ℕ} (l : Left b rest o) {m : Marker} {dirty next : List ℕ} (f : MarkerFirst rest m dirty next) where
  cons : drop l.at b ≡ f.word ∷ (dirty ++ next)
  cons = sym l.is ∙ f.in_turn

  pub left-inside : l.at < length b
  left-inside =
      let n : length (drop l.at b) ≡ suc (length (dirty ++ next)) = ap length cons in
      omega (arith, length-drop l.at b)

  words : drop (l.at + 1) b ≡ dirty ++ next
  words =
      let e : get_or b l.at 0 ∷ drop (suc l.at) b ≡ f.word ∷ (dirty ++ next) = sym (drop-cons b l.at 0 left-inside) ∙ cons in
      ap (λ (n : ℕ). drop n b) (add-one l.at) ∙ cc

  pub left-fields : FieldsOf (get_or b l.at 0) m
  left-fields =
      let e : get_or b l.at 0 ∷ drop (suc l.at) b ≡ f.word ∷ (dirty ++ next) = sym (drop-cons b l.at 0 left-inside) ∙ cons in
      let w : get_or b l.at 0 ≡ f.word = cc in
      rw w f.fields

  pub left-step : Step b l.at o m.value m.clean m.dirty
  left-step = read_step b l.at o m l.stands left-inside left-fields

  pub left_words : take m.dirty (drop (l.at + 1) b) ≡ dirty
  left_words = ap (take m.dirty) words ∙ take_at dirty next m.dirty f.all

  -- a dirty word is its segment
  pub left-dirty : (k : ℕ) → k < m.dirty → get_or dirty k 0 ≡ get_or (segments b) (o + m.clean + k) 0
  left-dirty k h =
      ap (λ (ws : List ℕ). get_or ws k 0) (sym left_words)
      ∙ get_or-take m.dirty (drop (l.at + 1) b) k 0 h
      ∙ get_or-drop (l.at + 1) b k 0
      ∙ sym (left-step.dirty-at k h)

  pub left-behind : next ≡ drop (l.at + 1 + m.dirty) b
  left-behind = sym (sym (drop-drop m.dirty (l.at + 1) b) ∙ ap (drop m.dirty) words ∙ drop_at dirty next m.dirty f.all)

  pub left-next : Left b next (o + m.clean + m.dirty)
  left-next = record { at = l.at + 1 + m.dirty; is = left-behind; stands = left-step.next }
