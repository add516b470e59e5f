-- The line that tells why a file cannot be opened or created.
use Rattle.std.specs.Prelude.{◌++◌, ℕ, List, [], codes, decimal}
use Rattle.hunk_base.specs.Text.{line}
use Rattle.hunk_tool.specs.declared.file_system.OpenFault.{OpenFault}
use Rattle.hunk_tool.specs.declared.file_system.OpenFault.TheVariants.{Directory, NoDirectory, NotAllowed, NotFound, Other, ReadOnly, TooManyFiles, TooManyLinks, Unknown}

-- the words for it, if it has a name
abbrev pub reason_text : OpenFault → List ℕ
reason_text NotFound = codes "no such file or directory"
reason_text NotAllowed = codes "not allowed"
reason_text Directory = codes "it is a directory"
reason_text NoDirectory = codes "a part of its path is no directory"
reason_text TooManyLinks = codes "too many symbolic links"
reason_text ReadOnly = codes "the file system is read-only"
reason_text TooManyFiles = codes "too many open files"
reason_text (Other number) = []
reason_text Unknown = []

-- the line that tells it, after two spaces; nothing if there is nothing to tell
abbrev pub reason_line : OpenFault → List ℕ
reason_line Unknown = []
reason_line (Other number) = line (codes "  reason: system error " ++ decimal number)
reason_line reason = line (codes "  reason: " ++ reason_text reason)
