-- A shell's session at a mounted tracer of one CPU, as a kernel asks it, with what is told, worked by hand. The checker computes it.
use Rattle.std.specs.Prelude.{◌≡◌, ℕ, ◌+◌, ◌*◌, ◌^◌, List, [], ◌∷◌, ◌++◌, map, codes}
use Rattle.fuse_wire.specs.declared.attributes.Attributes.{Attributes}
use Rattle.fuse_wire.specs.declared.attributes.FileKind.TheVariants.{Regular}
use Rattle.fuse_wire.specs.declared.errno.Errno.TheVariants.{EAGAIN, EINTR, EINVAL}
use Rattle.fuse_wire.specs.declared.reply.Reply.{Reply}
use Rattle.fuse_wire.specs.declared.reply.Reply.TheVariants.{Attributes as Told, Data, Done, Entry, Error, Init as Agreed, Opened, Poll as Ready, Written}
use Rattle.fuse_wire.specs.declared.request.Operation.{Operation}
use Rattle.fuse_wire.specs.declared.request.Operation.TheVariants.{GetAttr, Init, Interrupt, Lookup, Open, Poll, Read, Release, Write}
use Rattle.trace_command.specs.declared.file_name.TopFile.TheVariants as top_files
use Rattle.file_list.specs.declared.file.File.{File}
use Rattle.file_list.specs.declared.file.File.TheVariants.{ErrorLog, Inject, OfInstance, RawPipe, SyntheticEvents, Tool}
use Rattle.file_list.specs.declared.folder.Folder.TheVariants as folders
use Rattle.mount_tree.specs.declared.node.Node.TheVariants as nodes
use Rattle.mount_tree.specs.declared.node.Owner.TheVariants.{Top}
use Rattle.file_list.specs.declared.files.ToolFile.TheVariants as tools
use Rattle.mount_replies.specs.ComputedSteps.{Asked, Message, Replied, Silence, Turn, Waited, messages}
use Rattle.mount_replies.specs.PastLaws.{just_mounted}
use Rattle.mount_replies.specs.Services.{Terms}

abbrev pub terms : Terms
terms = record { config = record { cpus = 1; pages = 2; page_bytes = 64; history_limit = 1 }; uid = 0; gid = 0; mode = 511 }

-- a turn, and what is told in it
pub record Exchange : Type 0 where
  pub turn : Turn
  pub message : Message

-- a request about a file of the top instance, by process 7, and its reply
abbrev pub asks : ℕ → File → Operation → Reply → Exchange
asks unique file operation reply = record { turn = Asked unique 7 (nodes.File Top file) operation; message = Replied unique reply }

-- and one that has no reply, or none yet
abbrev pub asks_in_vain : ℕ → File → Operation → Exchange
asks_in_vain unique file operation = record { turn = Asked unique 7 (nodes.File Top file) operation; message = Silence }

-- what is told later to a request of this number
abbrev pub is_told : ℕ → Reply → Exchange
is_told unique reply = record { turn = Waited; message = Replied unique reply }

abbrev pub IsServedSo : List Exchange → Type 0
IsServedSo session = messages terms just_mounted (map (λ x. x.turn) session) ≡ map (λ x. x.message) session

-- open(2): O_LARGEFILE is 32768, O_APPEND 1024, O_TRUNC 512, O_WRONLY 1
abbrev pub for_reading : Operation
for_reading = Open 32768

abbrev pub for_writing : Operation
for_writing = Open 33281

abbrev pub for_appending : Operation
for_appending = Open 33793

-- a read of up to 4,096 bytes from an offset on
abbrev pub reads : ℕ → Operation
reads offset = Read 0 offset 4096 2 32768

-- echo tick u64 n > synthetic_events
abbrev pub declares : List Exchange
declares =
    asks 2 SyntheticEvents for_writing (Opened 0 33)
    ∷ asks 4 SyntheticEvents (Write 0 0 9 (codes "tick u64 n\n")) (Written 11)
    ∷ asks 6 SyntheticEvents (Release 0) Done
    ∷ []

-- echo nobody >> set_event, which is refused, and echo tick >> set_event, by one open file
abbrev pub sets_events : List Exchange
sets_events =
    asks 8 (Tool tools.SetEvent) for_appending (Opened 0 33)
    ∷ asks 10 (Tool tools.SetEvent) (Write 0 0 9 (codes "nobody\n")) (Error EINVAL)
    ∷ asks 12 (Tool tools.SetEvent) (Write 0 0 9 (codes "tick\n")) (Written 5)
    ∷ asks 14 (Tool tools.SetEvent) (Release 0) Done
    ∷ []

-- cat set_event shows the event
abbrev pub shows_events : List Exchange
shows_events =
    asks 16 (Tool tools.SetEvent) for_reading (Opened 0 33)
    ∷ asks 18 (Tool tools.SetEvent) (reads 0) (Data (codes "synthetic:tick\n"))
    ∷ asks 20 (Tool tools.SetEvent) (reads 15) (Data [])
    ∷ asks 22 (Tool tools.SetEvent) (Release 0) Done
    ∷ []

-- and cat error_log what was refused
abbrev pub shows_errors : List Exchange
shows_errors =
    asks 24 ErrorLog for_reading (Opened 0 33)
    ∷ asks 26 ErrorLog (reads 0)
    (Data (codes "[    0.000000] set_event: error: expected an event, as `synthetic:EVENT`, that is declared\n  Command: nobody\n           ^\n"))
    ∷ asks 28 ErrorLog (Release 0) Done
    ∷ []

-- cat trace_pipe waits until echo n=5 > events/synthetic/tick/inject; then it waits for more, and is ended by a signal
abbrev pub waits : List Exchange
waits =
    asks 30 (OfInstance top_files.TracePipe) for_reading (Opened 0 53)
    ∷ asks_in_vain 32 (OfInstance top_files.TracePipe) (reads 0)
    ∷ asks 34 (Inject 0) for_writing (Opened 1 1)
    ∷ asks 36 (Inject 0) (Write 1 0 9 (codes "n=5\n")) (Written 4)
    ∷ is_told 32 (Data (codes "7 [000] 1: tick: n=5\n"))
    ∷ asks 38 (Inject 0) (Release 1) Done
    ∷ asks_in_vain 40 (OfInstance top_files.TracePipe) (reads 21)
    ∷ asks_in_vain 41 (OfInstance top_files.TracePipe) (Interrupt 40)
    ∷ is_told 40 (Error EINTR)
    ∷ asks 42 (OfInstance top_files.TracePipe) (Release 0) Done
    ∷ []

-- what a kernel begins with: of what it offers to read ahead nothing is taken
abbrev pub begins : List Exchange
begins =
    record {
      turn = Asked 2 0 (nodes.Folder Top folders.Root) (Init 7 45 131072 41);
      message = Replied 2 (Agreed (record {
        major = 7;
        minor = 31;
        max_readahead = 0;
        flags = 40;
        max_background = 65535;
        congestion_threshold = 65535;
        max_write = 131072;
      }));
    }
    ∷ []

-- the attributes of the binary pages of the CPU, whose number is 49, with this size
abbrev pub pages_of_size : ℕ → Attributes
pages_of_size size = record { node = 49; size = size; kind = Regular; permissions = 292; links = 1; uid = 0; gid = 0; block_size = 4096 }

-- Each look-up of per_cpu/cpu0/trace_pipe_raw tells another number, whose low bits are the file's own, and a size that no reader comes to. Whoever asks for
-- it is told no size. A read that may not wait, and one by the page cache (a READ without FUSE_READ_LOCKOWNER), get EAGAIN where no event is; a read of
-- less than a page is no read by it.
abbrev pub looks_up_pages : List Exchange
looks_up_pages =
    record {
      turn = Asked 44 7 (nodes.Folder Top (folders.Cpu 0)) (Lookup (codes "trace_pipe_raw"));
      message = Replied 44 (Entry (49 + 22 * 2 ^ 47) (pages_of_size (2 ^ 40)));
    }
    ∷ record {
      turn = Asked 46 7 (nodes.Folder Top (folders.Cpu 0)) (Lookup (codes "trace_pipe_raw"));
      message = Replied 46 (Entry (49 + 23 * 2 ^ 47) (pages_of_size (2 ^ 40)));
    }
    ∷ asks 48 (RawPipe 0) GetAttr (Told (pages_of_size 0))
    ∷ asks 50 (RawPipe 0) (Open 34816) (Opened 0 53)
    ∷ asks 52 (RawPipe 0) (Poll 0 5 0 0) (Ready 0)
    ∷ asks 54 (RawPipe 0) (Read 0 0 4096 2 34816) (Error EAGAIN)
    ∷ asks 56 (RawPipe 0) (Read 0 0 4096 0 32768) (Error EAGAIN)
    ∷ asks 58 (RawPipe 0) (Read 0 0 4095 0 32768) (Error EINVAL)
    ∷ asks 60 (RawPipe 0) (Release 0) Done
    ∷ []

pub record SessionsAreServed : Type 0 where
  pub events : IsServedSo (declares ++ sets_events ++ shows_events ++ shows_errors)
  pub pipes : IsServedSo (declares ++ sets_events ++ waits)
  pub pages : IsServedSo (begins ++ looks_up_pages)
