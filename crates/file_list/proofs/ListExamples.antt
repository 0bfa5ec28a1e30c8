-- The examples, computed.
use Rattle.std.proofs.Common.{refl}
use Rattle.std.specs.Fmt.{digits}
use Rattle.file_list.specs.Files.{access_word, cpu_folder, event_folder, line_of}
use Rattle.file_list.specs.ListExamples.{AWholeList, InnerFolders, NamesOfTools, OwnFolders}
use Rattle.file_list.specs.Listings.{listing}

pub whole_list : AWholeList
unfolding listing line_of access_word event_folder cpu_folder digits
whole_list = refl

pub own_folders : OwnFolders
unfolding line_of access_word
own_folders = (refl, refl)

pub inner_folders : InnerFolders
unfolding line_of access_word
inner_folders = (refl, refl, refl, refl, refl, refl, refl)

pub names_of_tools : NamesOfTools
names_of_tools = (refl, refl)
