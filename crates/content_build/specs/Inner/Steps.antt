-- What the parts of a call rest on.
use Rattle.std.specs.Prelude.{◌≡◌, ◌++◌, ◌∷◌, [], List, length, Option}
use Rattle.content_tree.specs.Values.Tree.{Tree}
use Rattle.content_ser.specs.Grammar.Token.{Token}
use Rattle.content_build.specs.Partial.{Partial, Slot, due, between, done, begin, fill}
use Rattle.content_build.specs.Inner.Cells.{Label, cell, flat, Wait, opened, Stood, slots_cells}
use Rattle.content_build.specs.Inner.Cells.{slots_opens, in_series, in_map, in_record}
use Rattle.content_build.specs.Inner.Frames.{cells_of, opens_view}
use Rattle.content_build.specs.Inner.Sound.{meaning}
use Rattle.content_build.specs.declared.frame.Frame.{Frame}
use Rattle.content_build.specs.declared.frame.Opening.{Opening}

-- a tree is due
abbrev pub IsDue : Partial → Type 0
IsDue (due ps) = Unit {0}
IsDue (between c ps) = ⊥
IsDue (done t) = ⊥

-- where a tree is due this call opens a node of this label, which waits for this
abbrev pub Opens : Token → Label → Wait → Type 0
Opens call label w = (ps : List Slot) → (next : Partial) × (begin ps call ≡ Option.Some next)
    × Stood (slots_cells ps ++ cell label 0 ∷ []) (opened (length (slots_cells ps)) 0 w ∷ slots_opens ps) next

-- no slot of the opening waits
abbrev pub IsIdle : Wait → Type 0
IsIdle (in_series m) = Unit {0}
IsIdle in_map = Unit {0}
IsIdle in_record = Unit {0}
IsIdle _ = ⊥

-- slots wait, and with a leaf more at the end of the tape the new openings represent that it fills them
abbrev pub Fills : List Frame → List Opening → List Opening → Type 0
Fills es old new = (ps : List Slot) × (meaning es old ≡ due ps)
    × ((t : Tree) → length (flat t) ≡ 1 → Stood (cells_of es ++ flat t) (opens_view new) (fill ps t))
