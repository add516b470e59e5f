-- Why a file cannot be opened or created.
use Rattle.std.specs.Prelude.{◌≡◌}
use Rattle.std_io.specs.declared.io.kind.ErrorKind.{ErrorKind}
use Rattle.std_io.specs.declared.io.kind.ErrorKind.TheVariants as kind
use Rattle.hunk_tool.specs.declared.file_system.OpenFault.{OpenFault}
use Rattle.hunk_tool.specs.declared.file_system.OpenFault.TheVariants.{Directory, NoDirectory, NotAllowed, NotFound, Other, ReadOnly, TooManyFiles, TooManyLinks, Unknown}

-- the reason for an error of this kind: each of six kinds has its own, and any other has one by its number
abbrev pub IsReasonFor : ErrorKind → OpenFault → Type 0
IsReasonFor kind.NotFound reason = reason ≡ NotFound
IsReasonFor kind.PermissionDenied reason = reason ≡ NotAllowed
IsReasonFor kind.IsADirectory reason = reason ≡ Directory
IsReasonFor kind.NotADirectory reason = reason ≡ NoDirectory
IsReasonFor kind.FilesystemLoop reason = reason ≡ TooManyLinks
IsReasonFor kind.ReadOnlyFilesystem reason = reason ≡ ReadOnly
IsReasonFor _ TooManyFiles = Unit {0}
IsReasonFor _ (Other number) = Unit {0}
IsReasonFor _ Unknown = Unit {0}
IsReasonFor _ reason = ⊥
