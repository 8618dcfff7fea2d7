-- What prints a value.
use Rattle.content_tree.specs.declared.display.value.ValueDisplay.{ValueDisplay}
use Rattle.content_tree.specs.declared.value.NamedValue.{NamedValue}

-- the value that is printed
abbrev pub displayed : ValueDisplay → NamedValue
displayed d = d.value.now
