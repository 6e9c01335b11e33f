-- The words of a canonical body pass each test of the walk, in whatever state it may begin.
-- Assumes nothing.
use Prim.Native.Nat.{ℕ, zero, suc, ◌+◌, ◌-◌, ◌^◌, ◌≤◌, ◌<◌}
use mathlib.Core.Bool.{Bool, true, false, cond, not, ◌&&◌, true≢false}
use mathlib.Core.Path.{◌≡◌, refl, sym, ap, ◌∙◌, subst}
use mathlib.Core.List.{List, [], ◌∷◌, ◌++◌, foldl, foldl-append}
use lib.Dec.{eqb, ltb}
use lib.ListN.{length, length-append}
use lib.Pow.{pow_mono}
use native.Mathlib.Omega.{arith}
use borrow.Author.Tests.{ltb-true, ltb-false, eqb-false, eq-eqb, ne_eqb}
use Rattle.meaning.specs.Limits.{most_clean, most_dirty}
use Rattle.meaning.specs.Segment.{Segment, clean, mixed, kind, all_set, kinds, last_rows, last_limit, last_of, from_rows}
use Rattle.meaning.specs.Ewah.{marker, value_of, clean_of, dirty_of}
use Rattle.meaning.specs.Canonical.{Draft, blank, draft, body, opened, put, ewah_of}
use Rattle.meaning.specs.Format.{canonical}
use Rattle.meaning.specs.declared.Format.TheVariants.{Ewah}
use Rattle.laws.specs.Demands.{Words}
use Rattle.laws.proofs.Segments.{both, fits-clean, last-le}
use Rattle.laws.proofs.Decoded.{value-marker, clean-marker, dirty-marker}
use Rattle.laws.proofs.RowWords.{from-below, from_last}
use Rattle.resume.specs.Scan.{follows_of}
use Rattle.ewah_write.specs.Mixed.{is_mixed, all_mixed}

-- ---- the walk, word by word

-- where it stands: the last marker's fields, and how many of its dirty words are to come; or a test failed
pub data Scan : Type 0 where
  failed : Scan
  at : (v c d due : ℕ) → Scan

unfoldable pub scan_step : Scan → ℕ → Scan
scan_step failed x = failed
scan_step (at v c d zero) m =
    cond (follows_of v c d (value_of m) (clean_of m) (dirty_of m)) (at (value_of m) (clean_of m) (dirty_of m) (dirty_of m)) failed
scan_step (at v c d (suc due)) x = cond (is_mixed x) (at v c d due) failed

-- before the first marker a full one is taken to stand, of any value, so that nothing joins it
abbrev pub scanned : (u : ℕ) → List ℕ → Scan
scanned u b = foldl scan_step (at u most_clean most_dirty 0) b

pub scan-failed : (b : List ℕ) → foldl scan_step failed b ≡ failed
unfolding scan_step
scan-failed [] = refl
scan-failed (x ∷ b) = scan-failed b

-- a marker whose fields are v', c' and d'
pub scan-marker : (v c d m v' c' d' : ℕ) → v' ≡ value_of m → c' ≡ clean_of m → d' ≡ dirty_of m
    → scan_step (at v c d 0) m ≡ cond (follows_of v c d v' c' d') (at v' c' d' d') failed
unfolding scan_step
scan-marker v c d m v' c' d' ev ec ed = rw (ev, ec, ed)

-- dirty words
pub scan-mixed : (v c d : ℕ) (xs : List ℕ) → all_mixed xs ≡ true → foldl scan_step (at v c d (length xs)) xs ≡ at v c d 0
unfolding scan_step
scan-mixed v c d [] e = refl
scan-mixed v c d (x ∷ xs) e = let p = both (is_mixed x) (all_mixed xs) e in rw p.0 (scan-mixed v c d xs p.1)

pub scan-clean : (v c d : ℕ) (xs : List ℕ) → all_mixed xs ≡ false → foldl scan_step (at v c d (length xs)) xs ≡ failed
unfolding scan_step
scan-clean v c d [] e = absurd (true≢false e)
scan-clean v c d (x ∷ xs) e = go (is_mixed x) e (scan-clean v c d xs)
  where
    go : (t : Bool) → t && all_mixed xs ≡ false → (all_mixed xs ≡ false → foldl scan_step (at v c d (length xs)) xs ≡ failed)
        → foldl scan_step (cond t (at v c d (length xs)) failed) xs ≡ failed
    go true f ih = ih f
    go false f ih = scan-failed xs

-- ---- whether a marker may follow goes by whether it has clean segments and dirty words, and not by how many

pub follow-clean : (u k e v c d d' : ℕ) → 0 < c → follows_of u k e v c d ≡ true → (c' : ℕ) → 0 < c'
    → follows_of u k e v c' d' ≡ true
unfolding follows_of
follow-clean u k e v c d d' h f c' g = rw (ne_eqb c' 0 (omega arith)) (rw (ne_eqb c 0 (omega arith)) at f)

pub follow-dirty : (u k e v d d' : ℕ) → follows_of u k e v 0 d ≡ true → 0 < d' → follows_of u k e v 0 d' ≡ true
unfolding follows_of
follow-dirty u k e v d d' f g =
    let a = both (eqb v 0 && not (eqb d 0)) (eqb e most_dirty) f in
    let b = both (eqb v 0) (not (eqb d 0)) a.0 in
    rw (b.0, ne_eqb d' 0 (omega arith), a.1)

-- ---- the drafts of a writer

mixed-more : (xs : List ℕ) (x : ℕ) → all_mixed xs ≡ true → is_mixed x ≡ true → all_mixed (xs ++ x ∷ []) ≡ true
mixed-more [] x e m = rw m
mixed-more (y ∷ ys) x e m = let p = both (is_mixed y) (all_mixed ys) e in rw p.0 (mixed-more ys x p.1 m)

module _ (u : ℕ) where
  -- the words before the last marker pass, and it may stand behind them with its dirty words
  record Line (done : List ℕ) (v c : ℕ) (ds : List ℕ) : Type 0 where
    v₀ : ℕ
    c₀ : ℕ
    d₀ : ℕ
    before : scanned u done ≡ at v₀ c₀ d₀ 0
    follow : follows_of v₀ c₀ d₀ v c (length ds) ≡ true
    used : 0 < c + length ds
    words : all_mixed ds ≡ true
    hv : v < 2
    hc : c ≤ most_clean
    hd : length ds ≤ most_dirty

  abbrev Fine : Draft → Type 0
  Fine blank = Unit {0}
  Fine (draft done v c ds) = Line done v c ds

  -- a segment as rows give it
  abbrev Seen : Segment → Type 0
  Seen (clean v) = v < 2
  Seen (mixed x) = is_mixed x ≡ true

  scan-body : (done : List ℕ) (v c : ℕ) (ds : List ℕ) → Line done v c ds
      → scanned u (body (draft done v c ds)) ≡ at v c (length ds) 0
  unfolding body
  scan-body done v c ds l =
      foldl-append scan_step (at u most_clean most_dirty 0) done (marker v c (length ds) ∷ ds)
      ∙ ap (λ (s : Scan). foldl scan_step s (marker v c (length ds) ∷ ds)) l.before
      ∙ ap (λ (s : Scan). foldl scan_step s ds)
      (scan-marker l.v₀ l.c₀ l.d₀ (marker v c (length ds)) v c (length ds)
      (sym (value-marker v c (length ds) l.hv l.hc l.hd))
      (sym (clean-marker v c (length ds) l.hv l.hc l.hd))
      (sym (dirty-marker v c (length ds) l.hv l.hc l.hd))
      ∙ rw l.follow)
      ∙ scan-mixed v c (length ds) ds l.words

  opened-fine : (b : List ℕ) (v c d : ℕ) (s : Segment) → scanned u b ≡ at v c d 0 → Seen s
      → ((z : ℕ) → s ≡ clean z → (eqb d 0 && eqb v z && ltb c most_clean) ≡ false)
      → ((x : ℕ) → s ≡ mixed x → d ≡ most_dirty) → Fine (opened b s)
  unfolding opened follows_of
  opened-fine b v c d (clean z) q o h g = record {
    v₀ = v;
    c₀ = c;
    d₀ = d;
    before = q;
    follow = rw (h z refl);
    used = omega arith;
    words = refl;
    hv = o;
    hc = omega arith;
    hd = omega arith;
  }
  opened-fine b v c d (mixed x) q o h g = record {
    v₀ = v;
    c₀ = c;
    d₀ = d;
    before = q;
    follow = rw (eq-eqb d most_dirty (g x refl));
    used = omega arith;
    words = rw o;
    hv = omega arith;
    hc = omega arith;
    hd = omega arith;
  }

  clean-mixed : (v x : ℕ) → clean v ≡ mixed x → ⊥
  clean-mixed v x e = let z : ◌≡◌ {A = ℕ} 0 1 = cc in omega arith

  put-fine : (d : Draft) (s : Segment) → Fine d → Seen s → Fine (put d s)
  unfolding put
  put-fine blank s f o = opened-fine [] u most_clean most_dirty s refl o (λ v e. refl) (λ x e. refl)
  put-fine (draft done v c ds) (clean b) f o = go (eqb (length ds) 0 && eqb v b && ltb c most_clean) refl
    where
      go : (t : Bool) → (eqb (length ds) 0 && eqb v b && ltb c most_clean) ≡ t
          → Fine (cond t (draft done v (suc c) ds) (opened (body (draft done v c ds)) (clean b)))
      go false e =
          opened-fine (body (draft done v c ds)) v c (length ds) (clean b) (scan-body done v c ds f) o
          (λ z q. let w : b ≡ z = cc in subst (λ (n : ℕ). (eqb (length ds) 0 && eqb v n && ltb c most_clean) ≡ false) w e)
          (λ x q. absurd (clean-mixed b x q))
      go true e =
          let t = fits-clean (length ds) v b c e in
          record {
            v₀ = f.v₀;
            c₀ = f.c₀;
            d₀ = f.d₀;
            before = f.before;
            follow =
                follow-clean f.v₀ f.c₀ f.d₀ v c (length ds) (length ds) (omega (arith, f.used)) f.follow (suc c)
                (omega arith);
            used = omega arith;
            words = f.words;
            hv = f.hv;
            hc = omega arith;
            hd = f.hd;
          }
  put-fine (draft done v c ds) (mixed x) f o = go (ltb (length ds) most_dirty) refl
    where
      more : length (ds ++ x ∷ []) ≡ length ds + 1
      more = length-append ds (x ∷ [])

      follows : (c : ℕ) → follows_of f.v₀ f.c₀ f.d₀ v c (length ds) ≡ true
          → follows_of f.v₀ f.c₀ f.d₀ v c (length (ds ++ x ∷ [])) ≡ true
      follows zero g = follow-dirty f.v₀ f.c₀ f.d₀ v (length ds) (length (ds ++ x ∷ [])) g (omega (arith, more))
      follows (suc c) g =
          follow-clean f.v₀ f.c₀ f.d₀ v (suc c) (length ds) (length (ds ++ x ∷ [])) (omega arith) g (suc c) (omega arith)

      go : (t : Bool) → ltb (length ds) most_dirty ≡ t
          → Fine (cond t (draft done v c (ds ++ x ∷ [])) (opened (body (draft done v c ds)) (mixed x)))
      go false e =
          opened-fine (body (draft done v c ds)) v c (length ds) (mixed x) (scan-body done v c ds f) o
          (λ z q. absurd (clean-mixed z x (sym q)))
          (λ z q. omega (arith, ltb-false (length ds) most_dirty e, f.hd))
      go true e = record {
        v₀ = f.v₀;
        c₀ = f.c₀;
        d₀ = f.d₀;
        before = f.before;
        follow = follows c f.follow;
        used = omega (arith, more);
        words = mixed-more ds x f.words o;
        hv = f.hv;
        hc = f.hc;
        hd = omega (arith, more, ltb-true (length ds) most_dirty e);
      }

  abbrev AllSeen : List Segment → Type 0
  AllSeen [] = Unit {0}
  AllSeen (s ∷ ss) = Seen s × AllSeen ss

  puts-fine : (ss : List Segment) (d : Draft) → Fine d → AllSeen ss → Fine (foldl put d ss)
  puts-fine [] d f o = f
  puts-fine (s ∷ ss) d f o = puts-fine ss (put d s) (put-fine d s f o.0) o.1

  -- ---- the segments of rows

  kind-seen : (real x : ℕ) → real ≤ 32 → x < 2 ^ real → Seen (kind real x)
  unfolding kind all_set is_mixed
  kind-seen real x h l = go (eqb x 0) (eqb x (2 ^ real - 1)) refl refl
    where
      far : eqb x (2 ^ real - 1) ≡ false → x ≡ 4294967295 → ⊥
      far f q = let m : 2 ^ real ≤ 2 ^ 32 = pow_mono {i = real} {j = 32} h in eqb-false x (2 ^ real - 1) f (omega arith)

      go : (s t : Bool) → eqb x 0 ≡ s → eqb x (2 ^ real - 1) ≡ t → Seen (cond s (clean 0) (cond t (clean 1) (mixed x)))
      go true t e f = omega arith
      go false true e f = omega arith
      go false false e f = rw (e, ne_eqb x 4294967295 (far f))

  kinds-seen : (R : ℕ) (xs : List ℕ) → Words xs → last_of xs < last_limit 32 R → AllSeen (kinds 32 R xs)
  unfolding kinds last_of last_limit
  kinds-seen R [] low h = tt
  kinds-seen R (x ∷ []) low h = (kind-seen (last_rows 32 R) x (last-le 32 R (omega arith)) h, tt)
  kinds-seen R (x ∷ y ∷ ys) low h = (kind-seen 32 x (omega arith) (low 0), kinds-seen R (y ∷ ys) (λ i. low (suc i)) h)

  pub canonical-passes : (R : ℕ) (p : ℕ → Bool) → scanned u (canonical Ewah R p) ≡ failed → ⊥
  unfolding canonical ewah_of body
  canonical-passes R p e =
      let xs = from_rows 32 R p in
      let seen = kinds-seen R xs (from-below 32 (omega arith) R p) (from_last 32 (omega arith) R p) in
      go (foldl put blank (kinds 32 R xs)) (puts-fine (kinds 32 R xs) blank tt seen) e
    where
      go : (d : Draft) → Fine d → scanned u (body d) ≡ failed → ⊥
      go blank f q = let z : ◌≡◌ {A = ℕ} 0 1 = cc in omega arith
      go (draft done v c ds) f q = let s = scan-body done v c ds f in let z : ◌≡◌ {A = ℕ} 0 1 = cc in omega arith
