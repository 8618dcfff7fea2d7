-- The error of finding something else than what was expected.
use Rattle.std.specs.Prelude.{Bool, true, ◌≡◌}
use Rattle.content_tree.specs.Images.Image.{Image}
use Rattle.content_tree.specs.Images.Found.{image_view}
use Rattle.content_tree.specs.declared.expected.Expected.{Expected}
use Rattle.content_tree.specs.declared.error.ErrorKind.{ErrorKind}
use Rattle.content_tree.specs.declared.error.ErrorKind.TheVariants as kind

-- this image where that was expected, or out of memory where memory is taken
abbrev pub IsUnexpected : Image → Bool → Expected → ErrorKind → Type 0
IsUnexpected image takes_memory expected (kind.Unexpected found wanted) = (image_view found ≡ image) × (wanted ≡ expected)
IsUnexpected image takes_memory expected (kind.Custom text) = ⊥
IsUnexpected image takes_memory expected kind.OutOfMemory = takes_memory ≡ true
IsUnexpected image takes_memory expected kind.Misplaced = ⊥
IsUnexpected image takes_memory expected kind.Failed = ⊥
IsUnexpected image takes_memory expected kind.Unfinished = ⊥
