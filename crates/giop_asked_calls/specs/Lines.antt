-- Calls that come as lines of JSON, a call a line (docs/FORMATS.md, "Calls and answers"): what the
-- octets that were read have brought so far, and how more of them are read.
use Rattle.std.specs.Prelude.{◌≡◌, ℕ, ◌+◌, ◌==◌, ◌&&◌, ◌||◌, Bool, true, false, not, List, [], ◌∷◌, ◌++◌, length, Option, Some, None, is_some, Result, Ok, Err, if◌then◌else◌}
use Rattle.std.specs.List.{fold, list_all}
use Rattle.std.specs.Io.KnownBytes.{Consumes, IsAtEnd}
use Rattle.giop_json.specs.declared.form_fault.FormFault.{FormFault}
use Rattle.giop_types.specs.declared.interfaces.interface.Interface.{Interface}
use Rattle.giop_asked_calls.specs.declared.calls.CallLine.{CallLine}
use Rattle.giop_asked_calls.specs.declared.feed.LineFeed.{LineFeed}
use Rattle.giop_asked_calls.specs.declared.lines.CallLines.{CallLines}
use Rattle.giop_asked_calls.specs.Forms.{one_call_in}
use Rattle.giop_commands.specs.Session.Steps.{Each}

-- what the octets of lines have brought: the octets of a line that hasn't ended, or the refused
-- one; the calls that aren't made yet; how many lines have ended; why the last is refused, if it
-- is; and whether the text is over
pub record SoFar : Type 0 where
  pub line : List ℕ
  pub calls : List CallLine
  pub count : ℕ
  pub refused : Option FormFault
  pub is_over : Bool

abbrev pub so_far : CallLines → SoFar
so_far s = record {
  line = s.line.items;
  calls = s.calls.items;
  count = s.count;
  refused = s.refused;
  is_over = s.is_over;
}

-- no octet is taken yet
abbrev pub none_taken : SoFar
none_taken = record { line = []; calls = []; count = 0; refused = None; is_over = false }

-- white space within a line: a space, a tab, a carriage return
abbrev pub is_space : ℕ → Bool
is_space octet = (octet == 32) || ((octet == 9) || (octet == 13))

abbrev pub is_blank : List ℕ → Bool
is_blank octets = list_all is_space octets

-- a line has ended: its call stands behind those before it, or the line is refused
abbrev pub line_told : Result CallLine FormFault → SoFar → SoFar
line_told (Ok call) s = record s { line = []; calls = s.calls ++ call ∷ []; count = s.count + 1 }
line_told (Err fault) s = record s { count = s.count + 1; refused = Some fault }

-- a line of white space alone has no call
abbrev pub line_ended : Interface → SoFar → SoFar
line_ended interface s =
    if is_blank s.line then record s { line = []; count = s.count + 1 }
    else line_told (one_call_in interface s.line) s

-- what one more octet brings: 10 ends a line; behind a refused line nothing is taken
abbrev pub octet_taken : Interface → SoFar → ℕ → SoFar
octet_taken interface s octet =
    if is_some s.refused then s
    else (if octet == 10 then line_ended interface s
    else record s { line = s.line ++ octet ∷ [] })

-- what more octets bring, one after the other
abbrev pub octets_taken : Interface → SoFar → List ℕ → SoFar
octets_taken interface s octets = fold (octet_taken interface) s octets

-- the text is over: what stands behind the last newline is a line
abbrev pub text_ended : Interface → SoFar → SoFar
text_ended interface s = record (line_ended interface s) { is_over = true }

-- what a read brings: octets, or the end
abbrev pub read_taken : Interface → SoFar → List ℕ → SoFar
read_taken interface s [] = text_ended interface s
read_taken interface s (octet ∷ octets) = octets_taken interface s (octet ∷ octets)

-- whether nothing more is read: the text is over, or a line is refused
abbrev pub is_spent : SoFar → Bool
is_spent s = s.is_over || is_some s.refused

-- whether more is to be read: no call is there, and the text goes on
abbrev pub wants_more : SoFar → Bool
wants_more s = (length s.calls == 0) && not (is_spent s)

-- lines that are read, and what the octets that were read have brought: the octets that the reader
-- will still give, where they are known
pub record Feed : Type 0 where
  pub input : Option (List ℕ)
  pub so_far : SoFar

abbrev pub feed : Option (List ℕ) → SoFar → Feed
feed input so_far = record { input = input; so_far = so_far }

-- of what brings lines, whose source will still give these octets
abbrev pub feed_at : {S : Type 0} → Option (List ℕ) → LineFeed S → Feed
feed_at input source = feed input (so_far source.lines)

module _ (interface : Interface) where
  -- it is read once, to the end of the text only where that is reached
  pub record ReadsPiece (s t : Feed) : Type 0 where
    pub piece : List ℕ
    pub read : Consumes s.input t.input piece
    pub end : length piece ≡ 0 → IsAtEnd t.input
    pub taken : t.so_far ≡ read_taken interface s.so_far piece

  -- more was to be read, and is read once
  pub record ReadsOnce (s t : Feed) : Type 0 where
    pub wanted : wants_more s.so_far ≡ true
    pub piece : ReadsPiece s t

  -- it is read until a call is there, or the text is over or refused
  pub record ReadsOn (s t : Feed) : Type 0 where
    pub reads : List ℕ
    pub each : Each (λ read s t. ReadsOnce s t) reads s t
    pub enough : wants_more t.so_far ≡ false
