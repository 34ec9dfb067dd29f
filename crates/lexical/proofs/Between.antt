-- Bytes of a class, and what stands between two quotes: by positions, as the text that it is, and as the model's own readers have it.
use Prim.Native.Nat.{ℕ, ◌+◌, ◌-◌, ◌≤◌}
use mathlib.Core.Path.{◌≡◌, refl, sym, ap, ◌∙◌}
use mathlib.Core.Bool.{true, false, and-true}
use Rattle.std.specs.Prelude.{Option, None, Some}
use mathlib.Core.List.{[], ◌∷◌, ◌++◌, append_assoc}
use native.Mathlib.Omega.{arith}
use lib.ListN.{length, take, drop, length-append, length-drop}
use lib.Dec.{leb-zero}
use lib.Seq.{length-take-le}
use Rattle.rows.specs.Positions.{Reads, placed, run_end, LeavesEnd}
use Rattle.rows.proofs.Positions.{run-within, placed-reads, placed-none, none-placed, reads-placed}
use Rattle.model.specs.Base.{Bytes, text, all, is_some, ◌>>=◌, ◌>>◌, check, after, span, within}
use Rattle.model.specs.Names.{name_byte, is_name_of, is_key}
use Rattle.model.specs.Values.{string, read_string}
use Rattle.model.specs.Paths.{read_quoted}
use Rattle.model.proofs.Lists.{by_cases}
use Rattle.model.proofs.Reading.{within-yes, within-bounds, bind-some, check-some, some_same, after-some, after-span, span-passes}
use Rattle.lexical.specs.declared.class.Class.{Class}
use Rattle.lexical.specs.declared.class.Class.TheVariants.{Name, Text}
use Rattle.lexical.specs.Classes.{in_class, scan_end, read_between, text_answer}
use Rattle.lexical.proofs.Runs.{span-at, byte-stands, rest_of, bind-same, bind-bind, check_bind, check-none}
use Rattle.lexical.proofs.Slices.{after-no}
use Rattle.model.specs.Limits.{max_key}

-- ── Bytes of a class: what the function `scan` answers ──
module _ (class : Class) (least most : ℕ) (s : Bytes) (at : ℕ) where
  module _ (to : ℕ) (is : to ≡ run_end (in_class class) s at) where
    pub scan-misfit : within least most (to - at) ≡ false → None ≡ scan_end class least most s at
    unfolding scan_end
    scan-misfit m = rw (← is, m)

    pub scan-fits : least ≤ to - at → to - at ≤ most → Some to ≡ scan_end class least most s at
    unfolding scan_end
    scan-fits l m = rw (← is, within-yes least most (to - at) l m)

  -- for a caller of it
  module _ (x : Option ℕ) (answer : x ≡ scan_end class least most s at) where
    pub scan-bad : x ≡ None → within least most (run_end (in_class class) s at - at) ≡ false
    unfolding scan_end
    scan-bad i = by_cases (within least most (run_end (in_class class) s at - at))
        (λ e. let a : x ≡ Some (run_end (in_class class) s at) = answer ∙ rw e in let z : ◌≡◌ {A = ℕ} 0 1 = cc in absurd (omega arith))
        (λ e. e)

    pub scan-at : (to : ℕ) → x ≡ Some to → (to ≡ run_end (in_class class) s at) × (within least most (to - at) ≡ true)
    unfolding scan_end
    scan-at to i = by_cases (within least most (run_end (in_class class) s at - at))
        (λ e. let a : x ≡ Some (run_end (in_class class) s at) = answer ∙ rw e in let is : to ≡ run_end (in_class class) s at = cc in (is, rw is e))
        (λ e. let a : x ≡ None = answer ∙ rw e in let z : ◌≡◌ {A = ℕ} 0 1 = cc in absurd (omega arith))

    pub scan-within : at ≤ length s → (to : ℕ) → x ≡ Some to → (at + least ≤ to) × (to ≤ at + most) × (to ≤ length s)
    scan-within h to i =
        let (is, fits) = scan-at to i in
        let w = run-within (in_class class) s at to is h in
        let b = within-bounds least most (to - at) fits in
        (omega arith, omega arith, w.1)

module _ (class : Class) (quote least most : ℕ) where
  -- ── By positions: what the function `between` answers ──
  module _ (s : Bytes) (at : ℕ) where
    pub between-unopened : is_some (after (quote ∷ []) (drop at s)) ≡ false → text_answer s at None ≡ placed (read_between class quote least most) s at
    unfolding read_between text_answer ◌>>=◌
    between-unopened h = sym (placed-none _ s at (rw (after-no (quote ∷ []) (drop at s) h)))

    -- the opening quote stands there, and behind it `scan` answers x
    module _ (o : is_some (after (quote ∷ []) (drop at s)) ≡ true) (x : Option ℕ) (answer : x ≡ scan_end class least most s (at + 1)) where
      opened : (to : ℕ) → to ≡ run_end (in_class class) s (at + 1) → read_between class quote least most (drop at s) ≡
          (check (within least most (to - (at + 1))) >> (after (quote ∷ []) (drop to s) >>= λ r. Some (take (to - (at + 1)) (drop (at + 1) s), r)))
      unfolding read_between ◌>>=◌
      opened to is =
          let (h, e) = byte-stands quote s at o in
          let w = run-within (in_class class) s (at + 1) to is (omega arith) in
          let n : length (take (to - (at + 1)) (drop (at + 1) s)) ≡ to - (at + 1) = length-take-le _ _ (rw length-drop (omega arith)) in
          rw (e, span-at (in_class class) s (at + 1) to is, n)

      pub between-misfit : x ≡ None → text_answer s at None ≡ placed (read_between class quote least most) s at
      unfolding text_answer check ◌>>◌
      between-misfit i = sym (placed-none _ s at (opened _ refl ∙ rw (scan-bad class least most s (at + 1) x answer i)))

      module _ (to : ℕ) (i : x ≡ Some to) where
        pub between-unclosed : is_some (after (quote ∷ []) (drop to s)) ≡ false → text_answer s at None ≡ placed (read_between class quote least most) s at
        unfolding text_answer ◌>>=◌
        between-unclosed n =
            let (is, fits) = scan-at class least most s (at + 1) x answer to i in
            sym (placed-none _ s at (opened to is ∙ rw (after-no (quote ∷ []) (drop to s) n) (check-none _)))

        pub between-closed : is_some (after (quote ∷ []) (drop to s)) ≡ true → text_answer s at (Some (to + 1)) ≡ placed (read_between class quote least most) s at
        unfolding text_answer check ◌>>◌ ◌>>=◌
        between-closed c =
            let (is, fits) = scan-at class least most s (at + 1) x answer to i in
            let (h, e) = byte-stands quote s at o in
            let (l, f) = byte-stands quote s to c in
            let w = run-within (in_class class) s (at + 1) to is (omega arith) in
            let n : to + 1 - 2 - at ≡ to - (at + 1) = omega arith in
            rw n (sym (placed-reads _ s at _ (to + 1) (record { from = omega arith; to = omega arith; is = opened to is ∙ rw (fits, f) })))

  -- ── As a text ──
  -- b was read between its quotes, and r is the rest
  pub record Quoted (s b r : Bytes) : Type 0 where
    pub is : s ≡ quote ∷ (b ++ (quote ∷ r))
    pub fits : within least most (length b) ≡ true
    pub passes : all (in_class class) b ≡ true

  pub between-gives : (s b r : Bytes) → read_between class quote least most s ≡ Some (b, r) → Quoted s b r
  unfolding read_between
  between-gives s b r h =
      bind-some _ _ _ h λ s₁ i j.
      check-some _ _ _ j λ f k.
      bind-some _ _ _ k λ r₁ m n.
      let same : ◌≡◌ {A = Bytes × Bytes} ((span (in_class class) s₁).0, r₁) (b, r) = some_same n in
      let b-is : (span (in_class class) s₁).0 ≡ b = ap (λ (t : Bytes × Bytes). t.0) same in
      record {
        is = after-some (quote ∷ []) s s₁ i ∙ ap (quote ∷◌) (after-span (in_class class) (quote ∷ []) s₁ r₁ m ∙ ap (λ (t : Bytes × Bytes). t.0 ++ (quote ∷ t.1)) same);
        fits = rw b-is at f;
        passes = rw b-is at (span-passes (in_class class) s₁);
      }

  pub between-leaves : LeavesEnd (read_between class quote least most)
  between-leaves s t h =
      rest_of s (quote ∷ (t.0 ++ (quote ∷ []))) t.1
      ((between-gives s t.0 t.1 h).is ∙ ap (quote ∷◌) (sym (append_assoc t.0 (quote ∷ []) t.1)))

  -- ── For a caller of the function `between`: what its answer says ──
  -- a text between quotes stands from `at` to e
  pub record Stands (s : Bytes) (at e : ℕ) : Type 0 where
    pub at_least : at + 2 + least ≤ e
    pub at_most : e ≤ at + 2 + most
    pub passes : all (in_class class) (take (e - 2 - at) (drop (at + 1) s)) ≡ true
    pub reads : Reads (read_between class quote least most) s at (take (e - 2 - at) (drop (at + 1) s)) e

  module _ (s : Bytes) (at : ℕ) (x : Option ℕ) (answer : text_answer s at x ≡ placed (read_between class quote least most) s at) where
    pub between-bad : x ≡ None → read_between class quote least most (drop at s) ≡ None
    unfolding text_answer
    between-bad i = none-placed _ s at (sym (rw i at answer))

    pub between-at : at ≤ length s → (e : ℕ) → x ≡ Some e → Stands s at e
    unfolding text_answer
    between-at h e i =
        let r = reads-placed _ s at between-leaves h _ e (sym (rw i at answer)) in
        let q = between-gives _ _ _ r.is in
        let w = within-bounds least most _ q.fits in
        let l : e ≡ at + 2 + length (take (e - 2 - at) (drop (at + 1) s)) =
        omega (arith, length-drop at s, length-drop e s, r.to, simp length-append at (ap length q.is)) in
        record { at_least = omega arith; at_most = omega arith; passes = q.passes; reads = r }

-- ── The model's own readers ──
-- what was scanned is a key by its length alone
key-scanned : (s : Bytes) → is_key (span name_byte s).0 ≡ within 1 max_key (length (span name_byte s).0)
unfolding is_key is_name_of
key-scanned s = rw (span-passes name_byte s) (and-true _)

pub quoted-between : (quote : ℕ) (s : Bytes) → read_quoted (quote ∷ []) s ≡ read_between Name quote 1 max_key s
unfolding read_quoted read_between
quoted-between quote s = bind-same (after (quote ∷ []) s) _ _ (λ s₁. rw (key-scanned s₁))

pub string-between : (s : Bytes) → read_string s ≡ (read_between Text 0x22 0 32 s >>= λ t. Some (string t.0, t.1))
unfolding read_string read_between text within ◌>>=◌
string-between s =
    bind-same (after (0x22 ∷ []) s) _ _ (λ s₁. rw (leb-zero, check_bind, bind-bind))
    ∙ sym (bind-bind (after (0x22 ∷ []) s) _ _)
