-- Document 01, "Record, names and paths": "Saved text has this order and no blanks; `{}` is the empty record."
use Rattle.std.specs.Prelude.{[], ◌∷◌, ◌++◌, map, if◌then◌else◌}
use Rattle.model.specs.Base.{Bytes, text, ◌≐◌}
use Rattle.model.specs.Values.{quoted, value_text}
use Rattle.model.specs.Fields.{Keys, Fields}
use Rattle.model.specs.Fields

-- down to the value at a path: of a b c, `"a":{"b":{"c":`
unfoldable pub descend : Keys → Bytes
descend [] = []
descend (k ∷ []) = quoted k ++ text ":"
descend (k ∷ (l ∷ p)) = quoted k ++ (text ":{" ++ descend (l ∷ p))

-- and up again: a brace for each key
unfoldable pub ascend : Keys → Bytes
ascend p = map (λ k. 0x7D) p

-- from the field at the first path to the field at the second: objects that hold both stay open
unfoldable pub turn : Keys → Keys → Bytes
turn [] q = []
turn (k ∷ p) [] = []
turn (k ∷ p) (l ∷ q) = let r = turn p q in if k ≐ l then r else ascend p ++ (text "," ++ descend (l ∷ q))

-- what stands behind the value of the field at p, to the text's end
unfoldable pub saved_behind : Keys → Fields → Bytes
saved_behind p [] = ascend p
saved_behind p (f ∷ fs) = turn p f.path ++ (value_text f.value ++ saved_behind f.path fs)

unfoldable pub saved : Fields → Bytes
saved [] = text "{}"
saved (f ∷ fs) = text "{" ++ (descend f.path ++ (value_text f.value ++ saved_behind f.path fs))

unfoldable pub Opened : Unit {0}
unfolding Fields.Opened descend ascend turn saved_behind saved
Opened = tt
