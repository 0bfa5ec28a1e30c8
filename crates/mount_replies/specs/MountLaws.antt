-- What reads of a file give, and which lines a stream is, as theorems that speak of no program.
use Rattle.std.specs.Prelude.{◌≡◌, ℕ, ◌+◌, ◌-◌, ◌<◌, ◌≤◌, ◌==◌, false, map, List, [], ◌∷◌, ◌++◌, length, take, drop, Option, Some}
use Rattle.std.specs.List.{flat_map}
use Rattle.fuse_wire.specs.declared.reply.Reply.TheVariants as replies
use Rattle.fuse_wire.specs.declared.reply.Reply.{Reply}
use Rattle.trace_command.specs.Requests.{Request}
use Rattle.mount_replies.specs.FileWrites.{flush_file}
use Rattle.mount_replies.specs.Lines.{last_piece, most_kept, pieces_of, stream_lines}
use Rattle.mount_replies.specs.Mounted.{Does}
use Rattle.mount_replies.specs.Served.{part_of}
use Rattle.mount_replies.specs.Services.{OpenSeen, Service, Terms}
use Rattle.mount_replies.specs.Steps.{Asking, Asks, AsksLines, AsksNoting, LineAsked, Step, plain}

-- what reads of these sizes give together, each of which goes on after the bytes that those before it gave
abbrev pub given_together : List ℕ → ℕ → List ℕ → List ℕ
given_together [] offset text = []
given_together (size ∷ sizes) offset text =
    part_of offset size text ++ given_together sizes (offset + length (part_of offset size text)) text

-- it is one part of the text, without a gap and with nothing twice
abbrev pub ReadsGoOn : Type 0
ReadsGoOn =
    (sizes : List ℕ) (offset : ℕ) (text : List ℕ)
    → given_together sizes offset text ≡ take (length (given_together sizes offset text)) (drop offset text)

-- and once nothing is left, it is all of the text from where they began
abbrev pub NothingLeftIsAll : Type 0
NothingLeftIsAll =
    (sizes : List ℕ) (size offset : ℕ) (text : List ℕ) → 0 < size
    → part_of (offset + length (given_together sizes offset text)) size text ≡ [] → given_together sizes offset text ≡ drop offset text

-- how many commands a step does at most: one, but of a write one for each of its lines
abbrev pub most_commands : Step → ℕ
most_commands (Asks request outcome) = 1
most_commands (AsksNoting request takes outcome noting) = 1
most_commands (AsksLines lines outcome noting) = length lines
most_commands _ = 0

-- the requests that were done stay, and no more than so many are added
abbrev pub StepsDoCommands : Type 0
StepsDoCommands =
    (g : Terms) (before after : Service) (step : Step) (reply : Option Reply) → Does g before step reply after
    → (done : List Request) × (after.past ≡ done ++ before.past) × (length done ≤ most_commands step)

-- ---- streams of lines

-- the lines of which something is asked, in order
abbrev pub texts_of : List LineAsked → List (List ℕ)
texts_of lines = map (λ (line : LineAsked). line.text) lines

-- a stream in which nothing too long is kept
abbrev pub KeepsLittle : List ℕ → Type 0
KeepsLittle bytes = length (last_piece (pieces_of bytes)) ≤ most_kept

-- However an open file that is a stream is written to, its lines are the same: those of two writes, one after the other, are those of one write of both,
-- and as much is kept then.
abbrev pub CutsDontMatter : Type 0
CutsDontMatter =
    (asking : List ℕ → Asking) (rest one other : List ℕ) → KeepsLittle (rest ++ one) → KeepsLittle ((rest ++ one) ++ other)
    → (texts_of (stream_lines asking (length rest) (length one) 0 (pieces_of (rest ++ one)))
    ++ texts_of (stream_lines asking (length (last_piece (pieces_of (rest ++ one)))) (length other) 0 (pieces_of (last_piece (pieces_of (rest ++ one)) ++ other)))
    ≡ texts_of (stream_lines asking (length rest) (length (one ++ other)) 0 (pieces_of ((rest ++ one) ++ other))))
    × (last_piece (pieces_of (last_piece (pieces_of (rest ++ one)) ++ other)) ≡ last_piece (pieces_of ((rest ++ one) ++ other)))

-- bytes of lines, each with its newline
abbrev pub joined_lines : List (List ℕ) → List ℕ
joined_lines lines = flat_map (λ (line : List ℕ). line ++ 10 ∷ []) lines

-- no byte is lost or told twice: the lines that are asked and what is kept are what was kept and what was written
abbrev pub StreamsLoseNothing : Type 0
StreamsLoseNothing =
    (asking : List ℕ → Asking) (rest bytes : List ℕ) → KeepsLittle (rest ++ bytes)
    → joined_lines (texts_of (stream_lines asking (length rest) (length bytes) 0 (pieces_of (rest ++ bytes)))) ++ last_piece (pieces_of (rest ++ bytes)) ≡ rest ++ bytes

-- the bytes of a write that are done with a line are those up to its newline
abbrev pub EndsAre : ℕ → ℕ → List LineAsked → Type 0
EndsAre kept start [] = Unit {0}
EndsAre kept start (line ∷ lines) = (line.end ≡ start + length line.text + 1 - kept) × EndsAre kept (start + length line.text + 1) lines

abbrev pub LinesEndAtNewlines : Type 0
LinesEndAtNewlines =
    (asking : List ℕ → Asking) (rest bytes : List ℕ) → KeepsLittle (rest ++ bytes)
    → EndsAre (length rest) 0 (stream_lines asking (length rest) (length bytes) 0 (pieces_of (rest ++ bytes)))

-- a FLUSH by another lock owner than the one that left a line changes nothing
abbrev pub OthersFlushNothing : Type 0
OthersFlushNothing =
    (g : Terms) (s : Service) (handle lock_owner : ℕ) (file : OpenSeen) → (file.stream.lock_owner == lock_owner) ≡ false
    → flush_file g s handle lock_owner (Some file) ≡ plain replies.Done s.files
