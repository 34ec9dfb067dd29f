-- A line asks for what the first reader that reads it makes of it.
use Prim.Native.Nat.{◌≤◌, ◌<◌}
use mathlib.Core.Path.{◌≡◌, refl, ◌∙◌}
use Rattle.std.specs.Prelude.{Option, None, Some}
use mathlib.Core.List.{List, [], ◌∷◌}
use borrow.Author.Tests.{le-leb, lt-leb}
use lib.ListN.{length}
use Rattle.model.specs.Base.{Bytes, ◌>>◌, ◌<|>◌, check}
use Rattle.model.specs.Limits.{max_line}
use Rattle.model.specs.Fields.{Keys}
use Rattle.model.specs.Requests.{readers, first_of, request_of}
use Rattle.model.specs.Requests as model
use Rattle.requests.specs.Lines.{ReadsAs}
use Rattle.requests.specs.declared.Request.{Request}

-- nothing behind the last
last : {A : Type 0} (a : Option A) → a ≡ (a <|> None)
unfolding ◌<|>◌
last None = refl
last (Some x) = refl

-- ── The line ──
module _ (s : Bytes) where
  pub too_long_lem : max_line < length s → None ≡ request_of s
  unfolding request_of check ◌>>◌
  too_long_lem h = rw (lt-leb (length s) max_line h)

  pub short : length s ≤ max_line → first_of readers s ≡ request_of s
  unfolding request_of check ◌>>◌
  short h = rw (le-leb (length s) max_line h)

-- ── Of the readers that decide the first reads, or the others decide, or it is the last ──
module _ {read : Bytes → Option model.Request} {s : Bytes} {p : Keys} where
  module _ (others : List (Bytes → Option model.Request)) (decide : first_of (read ∷ others) s ≡ request_of s) where
    pub first_reads : {q : Request} → ReadsAs read s p (Some q) → ReadsAs request_of s p (Some q)
    unfolding first_of ◌<|>◌
    first_reads h = record { asks = rw (← h.asks) at decide; stands = h.stands }

    pub first-fails : ReadsAs read s p None → first_of others s ≡ request_of s
    unfolding first_of ◌<|>◌
    first-fails h = rw (← h.asks) at decide

  pub last-reads : {r : Option Request} → first_of (read ∷ []) s ≡ request_of s → ReadsAs read s p r → ReadsAs request_of s p r
  unfolding first_of
  last-reads decide h = record { asks = h.asks ∙ last (read s) ∙ decide; stands = h.stands }
