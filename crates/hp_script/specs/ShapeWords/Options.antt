-- The options of an `alloc` or a `zone` line.
use Rattle.std.specs.Prelude.{ℕ, ◌-◌, ◌^◌, Bool, true, false, ◌||◌, nat_lt, nat_le, List, [], ◌∷◌, length, Option, Some, None, is_some, unwrap_or, if◌then◌else◌, codes}
use Rattle.std.specs.Option.{option_and_then, option_map}
use Rattle.hp_script.specs.Part.{Part, behind, is_word, has_front}
use Rattle.hp_script.specs.Numbers.{number}
use Rattle.hp_script.specs.declared.options.SocketChoice.{SocketChoice}
use Rattle.hp_script.specs.declared.options.SocketChoice.TheVariants.{Any, Number}
use Rattle.hp_script.specs.declared.options.Options.{Options}
use Rattle.hp_script.specs.declared.given.Given.{Given}

-- no option is given yet
abbrev pub nothing_given : Given
nothing_given = record { socket = None; heap = None; align = None; bound = None; flags = None }

-- a socket's number is 0 to 31
abbrev pub socket_of : Option ℕ → Option SocketChoice
socket_of None = None
socket_of (Some n) = if nat_le n 31 then Some (Number n) else None

-- the socket that an option's value names
abbrev pub socket_choice : Part → Option SocketChoice
socket_choice value = if is_word (codes "any") value then Some Any else socket_of (number value.text)

-- `socket=`: at most once, and not beside `heap=`
unfoldable pub with_socket : Given → Part → Option Given
with_socket given value =
    if is_some given.socket || is_some given.heap then None
    else option_map (λ socket. record given { socket = Some socket }) (socket_choice value)

-- `heap=`: at most once, not beside `socket=`, and with a name
unfoldable pub with_heap : Given → Part → Option Given
with_heap given value =
    if is_some given.socket || (is_some given.heap || nat_lt (length value.text) 1) then None
    else Some (record given { heap = Some value })

-- a number that is not given yet and is at most so much
abbrev pub number_given : Bool → ℕ → Part → Option ℕ
number_given true most value = None
number_given false most value = option_and_then (λ n. if nat_le n most then Some n else None) (number value.text)

-- `align=`, `bound=` and `flags=`: each at most once
unfoldable pub with_align : Given → Part → Option Given
with_align given value = option_map (λ n. record given { align = Some n }) (number_given (is_some given.align) (2 ^ 64 - 1) value)

unfoldable pub with_bound : Given → Part → Option Given
with_bound given value = option_map (λ n. record given { bound = Some n }) (number_given (is_some given.bound) (2 ^ 64 - 1) value)

unfoldable pub with_flags : Given → Part → Option Given
with_flags given value = option_map (λ n. record given { flags = Some n }) (number_given (is_some given.flags) (2 ^ 32 - 1) value)

-- one option more: a key, and its value
unfoldable pub with_option : Given → Part → Option Given
with_option given word =
    if has_front (codes "socket=") word then with_socket given (behind 7 word)
    else (if has_front (codes "heap=") word then with_heap given (behind 5 word)
    else (if has_front (codes "align=") word then with_align given (behind 6 word)
    else (if has_front (codes "bound=") word then with_bound given (behind 6 word)
    else (if has_front (codes "flags=") word then with_flags given (behind 6 word)
    else None))))

-- the options that some words give, or that one is bad
abbrev pub given_by : Given → List Part → Option Given
given_by given [] = Some given
given_by given (word ∷ others) = option_and_then (λ more. given_by more others) (with_option given word)

-- what is not given has its default
abbrev pub settled : Given → Options
settled given =
    record { socket = unwrap_or given.socket Any; heap = given.heap; align = unwrap_or given.align 0; bound = unwrap_or given.bound 0; flags = unwrap_or given.flags 0 }

-- the options of a line
unfoldable pub options_of : List Part → Option Options
options_of words = option_map settled (given_by nothing_given words)
