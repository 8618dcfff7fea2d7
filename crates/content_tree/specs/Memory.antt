-- What takes no memory: nothing in it is copied, and there is no list and no box to make.
use Rattle.std.specs.Prelude.{Bool, true, false, not, ◌&&◌, IsTrue, Some}
use Rattle.content_tree.specs.Values.Text.{Text}
use Rattle.content_tree.specs.Values.Tree as tree
use Rattle.content_tree.specs.Values.Tree.{Tree, TreeData}
use Rattle.content_tree.specs.Images.Image as image
use Rattle.content_tree.specs.Images.Image.{Image, ImageData}
use Rattle.content_tree.specs.Errors.Cause.{Expectation, structure, enumeration, Cause}
use Rattle.content_tree.specs.Errors.Cause.{unexpected, custom}

-- a value without parts, whose text or bytes, if it has any, take none by `is_free_text`
abbrev pub is_free_tree : (is_free_text : Text → Bool) → Tree → Bool
is_free_tree is_free_text tree.unit = true
is_free_tree is_free_text (tree.boolean b) = true
is_free_tree is_free_text (tree.number n) = true
is_free_tree is_free_text (tree.character c) = true
is_free_tree is_free_text (tree.text t) = is_free_text t
is_free_tree is_free_text (tree.octets t) = is_free_text t
is_free_tree is_free_text tree.absent = true
is_free_tree is_free_text t = false

-- no data, or one such value
abbrev pub is_free_data : (is_free_text : Text → Bool) → TreeData → Bool
is_free_data is_free_text tree.no_data = true
is_free_data is_free_text (tree.one t) = is_free_tree is_free_text t
is_free_data is_free_text p = false

-- a borrowed text is borrowed again
abbrev pub is_lent_again : Text → Bool
is_lent_again t = t.borrowed

-- an owned text is moved
abbrev pub is_moved : Text → Bool
is_moved t = not t.borrowed

-- a copy of the value takes no memory
abbrev pub CopyTakesNoMemory : Tree → Type 0
CopyTakesNoMemory t = IsTrue (is_free_tree is_lent_again t)

-- the same of what a struct or a variant holds
abbrev pub DataCopyTakesNoMemory : TreeData → Type 0
DataCopyTakesNoMemory p = IsTrue (is_free_data is_lent_again p)

-- the same of a struct or a variant, with its names
abbrev pub StructCopyTakesNoMemory : Tree → Type 0
StructCopyTakesNoMemory (tree.structure n p) = IsTrue (is_lent_again n && is_free_data is_lent_again p)
StructCopyTakesNoMemory (tree.enumeration n i v p) =
    IsTrue (is_lent_again n && (is_lent_again v && is_free_data is_lent_again p))
StructCopyTakesNoMemory t = ⊥

-- making the value owned takes no memory
abbrev pub OwningTakesNoMemory : Tree → Type 0
OwningTakesNoMemory t = IsTrue (is_free_tree is_moved t)

-- the same of what a struct or a variant holds
abbrev pub DataOwningTakesNoMemory : TreeData → Type 0
DataOwningTakesNoMemory p = IsTrue (is_free_data is_moved p)

-- the same of a struct or a variant, whose names are moved
abbrev pub StructOwningTakesNoMemory : Tree → Type 0
StructOwningTakesNoMemory (tree.structure n p) = DataOwningTakesNoMemory p
StructOwningTakesNoMemory (tree.enumeration n i v p) = DataOwningTakesNoMemory p
StructOwningTakesNoMemory t = ⊥

-- an image without parts, text and bytes
abbrev pub is_free_image : Image → Bool
is_free_image image.unit = true
is_free_image (image.boolean b) = true
is_free_image (image.number n) = true
is_free_image (image.character c) = true
is_free_image image.absent = true
is_free_image i = false

-- no data, or one such image
abbrev pub is_free_image_data : ImageData → Bool
is_free_image_data image.no_data = true
is_free_image_data (image.one i) = is_free_image i
is_free_image_data c = false

-- an expectation without a name
abbrev pub is_free_expectation : Expectation → Bool
is_free_expectation (structure (Some n) t) = false
is_free_expectation (enumeration (Some n) t) = false
is_free_expectation e = true

-- an error whose image and expectation are such, or one without contents
abbrev pub is_free_cause : Cause → Bool
is_free_cause (unexpected i e) = is_free_image i && is_free_expectation e
is_free_cause (custom t) = false
is_free_cause f = true
