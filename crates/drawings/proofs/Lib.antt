mod Sound
mod Counting
mod Lasts
mod Meetings
